use Rattle.std.proofs.Common.{◌++◌, ◌∙◌, ap, List, ℕ, codes}
use Rattle.http_fields.specs.Text.{line}
use Rattle.http_range.proofs.ask.push_if_none_match.Goals as goal

pub returns : goal.returns
returns c =
    c.in_ok-push_line.ensures ∙ ap (λ (tag : List ℕ). c.args.out.now.items ++ line (codes "If-None-Match", tag)) c.as_bytes.ensures.text

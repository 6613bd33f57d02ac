use Rattle.std.proofs.Common.{◌≡◌, ◌-◌, ◌++◌, ◌∙◌, List, ℕ, codes, length, ap, arith}
use Rattle.std.specs.List.{flat_map}
use Rattle.std.specs.Prelude.{option_copied}
use Rattle.http_fields.specs.Text.{closing, line}
use Rattle.http_range.specs.Reply.{fields_of, status_line}
use Rattle.cog_server.specs.Additions.{origin_fields}
use Rattle.cog_server.proofs.AdditionsLemmas.{head_more}
use Rattle.cog_server.proofs.additions.push_head.Goals as goal

pub returns : goal.returns
returns c =
    let reply = c.args.reply.now in
    let rest = origin_fields (option_copied c.args.additions.origin) ++ closing c.args.close in
    let head = c.append_head.new.text.items in
    let count : c.saturating_sub.result ≡ length head - 2 = omega (arith, c.len.ensures, c.saturating_sub.ensures) in
    c.in_ok-push_end.ensures ∙ ap (λ (xs : List ℕ). xs ++ (flat_map line rest ++ codes "\r\n")) c.truncate.ensures.items
    ∙ head_more c.args.out.now.items (status_line reply) head (fields_of reply) rest c.saturating_sub.result c.in_ok-append_head.ensures count

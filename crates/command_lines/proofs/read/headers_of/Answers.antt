use Rattle.std.proofs.Common.{◌≡◌, ◌∙◌, ℕ, List, Bor, ap, map, rules, sym}
use Rattle.clap.specs.Words.{found_of}
use Rattle.command_lines.proofs.LineLemmas.{given_headers, no_headers}
use Rattle.command_lines.proofs.read.headers_of.Goals as goal

pub returns-in_default : goal.returns-in_default
returns-in_default c =
    no_headers (found_of c.args.matches.now) c.get_strs.result c.get_strs.ensures (search rules)
    ∙ ap (map (λ (header : Bor (List ℕ)). header.now)) (sym c.new.ensures.items)

pub returns : goal.returns
returns c =
    given_headers (found_of c.args.matches.now) c.get_strs.result c.in-Some.values c.get_strs.ensures (search rules)
    ∙ ap (map (λ (header : Bor (List ℕ)). header.now)) (sym c.in_ok-headers.ensures.items)

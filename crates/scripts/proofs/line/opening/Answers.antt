use Rattle.std.proofs.Common.{◌∷◌, ap, codes, drop, get_or, length, take, ◌-◌}
use Rattle.scripts.specs.Line.{texts}
use Rattle.scripts.proofs.EventLemmas.{texts-first}
use Rattle.scripts.proofs.line.opening.Goals as goal

pub returns-clause-read : goal.returns-clause-read
returns-clause-read c =
    let rest = c.args.rest.now in (
      (get_or rest 0 _).now,
      texts (take (length rest - 1) (drop 1 rest)),
      ap (λ words. codes "open" ∷ words) (texts-first rest _ c.in-len1-up.len_at_least),
      c.in_ok-wanted.ensures.read,
      c.in_ok-query_of.ensures.read,
    )

use Rattle.std.proofs.Common.{◌≡◌, drop}
use Rattle.http_fields.specs.Digits.{number_64}
use Rattle.http_fields.proofs.DigitsLemmas.{number_from}
use Rattle.http_fields.proofs.digits.number_64.Given as goal

abbrev pub invariant-loop-b : goal.invariant-loop-b
invariant-loop-b l = number_64 l.text ≡ number_from l.n (drop l.b-index l.text)

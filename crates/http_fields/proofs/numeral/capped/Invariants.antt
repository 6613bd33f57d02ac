use Rattle.std.proofs.Common.{◌≡◌, take}
use Rattle.std.specs.Str.Parse.{digits_value}
use Rattle.http_fields.specs.Digits.{capped}
use Rattle.http_fields.proofs.numeral.capped.Given as goal

abbrev pub invariant-loop-b : goal.invariant-loop-b
invariant-loop-b l = l.n ≡ capped (digits_value 10 (take l.b-index l.text))

use Rattle.std.proofs.Common.{◌≡◌, ◌∙◌, ℕ, List, sym, refl, true}
use Rattle.std.specs.Prelude.{IsTrue, Result, Ok, Err, is_ok}
use Rattle.std.proofs.lemmas.Bool.{false≢true}
use Rattle.std.specs.Net.Grammar.{IsIpv6Text, Parses}
use Rattle.std.specs.declared.net.ipv6_addr.Ipv6Addr.{Ipv6Addr}
use Rattle.http_fields.specs.Target.{IsAddress}
use Rattle.http_fields.proofs.targets.is_address.Goals as goal

read : {E : Type 0} (text : List ℕ) (r : Result Ipv6Addr E) → Parses IsIpv6Text text r → is_ok r ≡ true → IsAddress text
read text (Ok address) parses ok = (address, parses)
read text (Err e) parses ok = absurd (false≢true ok)

reads : {E : Type 0} (text : List ℕ) (r : Result Ipv6Addr E) → Parses IsIpv6Text text r → IsAddress text → is_ok r ≡ true
reads text (Ok address) parses is = refl
reads text (Err e) parses is = absurd (parses is.0 is.1)

pub returns : goal.returns
returns c = (
  λ ok. read _ _ c.parse_ascii.ensures (sym c.is_ok.ensures.value ∙ ok),
  λ is. c.is_ok.ensures.value ∙ reads _ _ c.parse_ascii.ensures is,
)

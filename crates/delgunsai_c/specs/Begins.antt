-- Where the histories of a handle's exchanges begin.
use Rattle.std.specs.Prelude.{◌≡◌, false, [], None}
use Rattle.client_connection.specs.Status.{over}
use Rattle.client_dialogue.specs.Goes.{BeginsAnew}
use Rattle.delgunsai_c.specs.declared.held.Held.{Held}

-- Nothing was asked yet: there is no connection, and neither an exchange nor a check is under way. A query may take 65,536 exchanges.
pub record IsUnused (k : Held) : Type 0 where
  pub status : k.dialogue.status ≡ over []
  pub idle : k.dialogue.asked ≡ false
  pub check : k.check ≡ None
  pub exchanges : k.exchanges ≡ 65536

-- A query begins, whatever happened before, with as many exchanges allowed as before. What was under way is dropped.
pub record BeginsQuery (h k : Held) : Type 0 where
  pub begins : BeginsAnew h.exchanges h.dialogue k.dialogue
  pub idle : k.dialogue.asked ≡ false
  pub check : k.check ≡ None
  pub exchanges : k.exchanges ≡ h.exchanges

-- An answer on its way out.
use Rattle.std.specs.Prelude.{◌≡◌, ℕ, List, [], ◌++◌, drop, slice_range, option_map, unwrap_or, None}
use Rattle.std.specs.Rc.{rc_slice_items}
use Rattle.cog_server.specs.Additions.{IsSent, Sent, ServiceState}
use Rattle.cog_server.specs.Status.{tag_of}
use Rattle.cog_server.specs.declared.outgoing.Outgoing.{Outgoing}

abbrev pub body_of : Outgoing → List ℕ
body_of o = slice_range (unwrap_or (option_map rc_slice_items o.file) []) o.first o.end

-- what of the answer isn't written
abbrev pub waiting_of : Outgoing → List ℕ
waiting_of o = drop o.sent (o.head.items ++ body_of o)

-- no bytes of a file are held
pub record HoldsNone (o : Outgoing) : Type 0 where
  pub file : o.file ≡ None
  pub tag : o.tag ≡ None

-- there is no answer
pub record IsEmpty (o : Outgoing) : Type 0 where
  pub head : o.head.items ≡ []
  pub sent : o.sent ≡ 0
  pub none : HoldsNone o

-- `o` is what is sent for the message after `n` answers, with this status code, and none of it is written
pub record IsOutgoing (service : ServiceState) (n : ℕ) (message : List ℕ) (o : Outgoing) (code : ℕ) : Type 0 where
  pub sent : Sent
  pub answers : IsSent service n message sent
  pub text : waiting_of o ≡ sent.text
  pub close : o.close ≡ sent.response.close
  pub tag : o.tag ≡ tag_of sent.response.reply
  pub status : code ≡ sent.status

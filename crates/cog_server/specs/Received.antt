-- Reading what comes next on a connection. A failure of the inlet may end it, and so may a lack of memory.
use Rattle.std.specs.Prelude.{◌≡◌, ◌≢◌, ◌≤◌, Bool, true, false, ℕ, List, [], ◌∷◌, length, Option, Result, Ok, Err}
use Rattle.std.specs.Io.KnownBytes.{append_known}
use Rattle.cog_server.specs.Status.{Status, room_of, after_bytes, after_end, is_closing}
use Rattle.cog_server.specs.declared.served.ServeError.{ServeError}
use Rattle.cog_server.specs.declared.served.ServeError.TheVariants.{Read, Write, Memory}

-- bytes came, or none, which means the end
abbrev pub after_read : List ℕ → Status → Status
after_read [] s = after_end s
after_read (b ∷ bytes) s = after_bytes (b ∷ bytes) s

-- what the inlet gave: no more bytes than there is room for
pub record Gives (s : Status) (given given' : Option (List ℕ)) (has_failed : Bool) (bytes : List ℕ) : Type 0 where
  pub room : length bytes ≤ room_of s
  pub gave : given' ≡ append_known given bytes
  pub unfailed : has_failed ≡ false

-- the connection took what came
pub record IsReceived (s s' : Status) (given given' : Option (List ℕ)) (is_over : Type 0) (has_failed : Bool) : Type 0 where
  pub bytes : List ℕ
  pub gives : Gives s given given' has_failed bytes
  pub status : s' ≡ after_read bytes s
  pub ends : bytes ≡ [] → is_over

-- memory ran out for the bytes that came, which were to be kept
pub record IsLost (s : Status) (given given' : Option (List ℕ)) (has_failed : Bool) : Type 0 where
  pub bytes : List ℕ
  pub some : bytes ≢ []
  pub kept : is_closing s ≡ false
  pub gives : Gives s given given' has_failed bytes

-- the inlet failed, and gave nothing
pub record IsRefused (given given' : Option (List ℕ)) (has_failed : Bool) : Type 0 where
  pub same : given' ≡ append_known given []
  pub failed : has_failed ≡ true

abbrev pub Receives : {A : Type 0} → Status → Status → Option (List ℕ) → Option (List ℕ) → Type 0 → Bool → Result A ServeError → Type 0
Receives s s' given given' is_over has_failed (Ok a) = IsReceived s s' given given' is_over has_failed
Receives s s' given given' is_over has_failed (Err Read) = IsRefused given given' has_failed
Receives s s' given given' is_over has_failed (Err Write) = ⊥
Receives s s' given given' is_over has_failed (Err Memory) = IsLost s given given' has_failed

-- Writing an answer. A lack of memory may end it, and so may a failure of the outlet.
use Rattle.std.specs.Prelude.{◌≡◌, Bool, true, false, ℕ, List, Option, Result, Ok, Err}
use Rattle.std.specs.Io.KnownBytes.{append_known}
use Rattle.http_range.specs.Honest.{IsFront}
use Rattle.cog_server.specs.declared.served.ServeError.{ServeError}
use Rattle.cog_server.specs.declared.served.ServeError.TheVariants.{Read, Write, Memory}

-- a beginning of the text was written, and then writing failed
pub record IsBroken (taken taken' : Option (List ℕ)) (has_failed : Bool) (text : List ℕ) : Type 0 where
  pub written : List ℕ
  pub front : IsFront written text
  pub took : taken' ≡ append_known taken written
  pub failed : has_failed ≡ true

-- the text was written whole
pub record IsWritten (taken taken' : Option (List ℕ)) (has_failed : Bool) (text : List ℕ) : Type 0 where
  pub took : taken' ≡ append_known taken text
  pub unfailed : has_failed ≡ false

-- nothing was written
pub record IsUnwritten (taken taken' : Option (List ℕ)) (has_failed : Bool) : Type 0 where
  pub same : taken' ≡ taken
  pub unfailed : has_failed ≡ false

-- the text was written, or a beginning of it if writing failed, or nothing if memory ran out
abbrev pub Writes : {A : Type 0} → Option (List ℕ) → Option (List ℕ) → Bool → List ℕ → Result A ServeError → Type 0
Writes taken taken' has_failed text (Ok a) = IsWritten taken taken' has_failed text
Writes taken taken' has_failed text (Err Read) = ⊥
Writes taken taken' has_failed text (Err Write) = IsBroken taken taken' has_failed text
Writes taken taken' has_failed text (Err Memory) = IsUnwritten taken taken' has_failed

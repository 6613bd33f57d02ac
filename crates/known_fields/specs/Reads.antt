-- When what was read in the known bytes is what a file says.
use Rattle.std.specs.Prelude.{◌≡◌, ℕ, ◌+◌, ◌<◌, ◌≤◌, Bool, true, List, length, Option, Some, IfSome}
use Rattle.tiff_dir.specs.declared.order.Order.{Order}
use Rattle.tiff_dir.specs.File.{order_of}

-- In what follows `is_of` says of which files the known bytes may be. `is_known` says if the bytes from a place on, of a length, are known.

-- all bytes of the file are known
abbrev pub AreAllKnown : (ℕ → ℕ → Bool) → List ℕ → Type 0
AreAllKnown is_known f = (first len : ℕ) → 0 < len → first + len ≤ length f → is_known first len ≡ true

-- each file that the bytes may be of has this byte order
abbrev pub HaveOrder : (List ℕ → Type 0) → Order → Type 0
HaveOrder is_of order = (f : List ℕ) → is_of f → order_of f ≡ Some order

-- What was read is what each file says that the bytes may be of. If the whole file is known, all that it says was read.
pub record Reads {A : Type 0} (is_of : List ℕ → Type 0) (is_known : ℕ → ℕ → Bool) (said : List ℕ → Option A) (read : Option A) : Type 0 where
  pub known : IfSome read (λ v. (f : List ℕ) → is_of f → said f ≡ Some v)
  pub whole : (f : List ℕ) → is_of f → AreAllKnown is_known f → read ≡ said f

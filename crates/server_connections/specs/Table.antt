-- A table of connections by number.
use Rattle.std.specs.Prelude.{◌≡◌, ◌≢◌, ◌<◌, ◌==◌, ℕ, if◌then◌else◌, nat_eq, List, [], ◌∷◌, Option, Some, None, is_some, option_map, ⊤}
use Rattle.std.specs.Coded.{le_prop}
use Rattle.std.specs.Map.{lookup}
use Rattle.cog_server.specs.Additions.{ServiceState}
use Rattle.cog_server.specs.Status.{Status, GoesOnBy, after_write}
use Rattle.server_connections.specs.declared.timed.Timed.{Timed}

abbrev pub Table : Type 0
Table = List (ℕ × Timed)

abbrev pub timed_at : ℕ → Table → Option Timed
timed_at k table = lookup (nat_eq k) table

-- each connection except `k` is as it was
abbrev pub OthersStay : ℕ → Table → Table → Type 0
OthersStay k old new = (other : ℕ) → other ≢ k → timed_at other new ≡ timed_at other old

-- connection `k` is changed by `f`, if there is one, and the others stay
pub record Changes (k : ℕ) (f : Timed → Timed) (old new : Table) : Type 0 where
  pub here : timed_at k new ≡ option_map f (timed_at k old)
  pub others : OthersStay k old new

-- the table has this under `k`, and the others stay
pub record Becomes (k : ℕ) (timed : Option Timed) (old new : Table) : Type 0 where
  pub here : timed_at k new ≡ timed
  pub others : OthersStay k old new

-- A write was tried, and `n` bytes of what waits were written. If there were any, that is progress.
abbrev pub timed_after_write : ℕ → ℕ → Timed → Timed
timed_after_write n now p =
    record { connection = after_write n p.connection; progress = if n == 0 then p.progress else now; tried = now }

-- connection `k` goes on, if there is one; if there is a status code, its next message is answered
abbrev pub GoesOnAt : ServiceState → ℕ → ℕ → Option Timed → Table → Table → Option ℕ → Type 0
GoesOnAt service k now None old new status = (status ≡ None) × (new ≡ old)
GoesOnAt service k now (Some p) old new status =
    (s : Status) × GoesOnBy service p.connection s status
    × Becomes k (Some (record { connection = s; progress = if is_some status then now else p.progress; tried = p.tried })) old new

-- the connections are in the order in which they came, the newest first: their numbers fall, and are below `n`
abbrev pub AreFalling : ℕ → Table → Type 0
AreFalling n [] = ⊤
AreFalling n (e ∷ table) = (e.0 < n) × AreFalling e.0 table

-- there is only one proof that they fall
pub falling_once : (n : ℕ) (table : Table) → IsProp (AreFalling n table)
falling_once n [] p q = λ i. p
falling_once n (e ∷ table) p q = λ i. (le_prop p.0 q.0 i, falling_once e.0 table p.1 q.1 i)

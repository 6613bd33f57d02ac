-- What is queued, and what is heard of in a wait.
use Rattle.std.proofs.Common.{◌≡◌, ◌⊎◌, inl, inr, ◌++◌, ℕ, List, [], ◌∷◌, map, length, None, refl, subst, sym, ap, ◌∙◌, arith}
use Rattle.std.specs.Prelude.{Contains}
use Rattle.std.proofs.lemmas.List.Elements.{Contains-append_left, Contains-append_right, Contains-push, Contains-push_cases}
use Rattle.mio.specs.declared.event.event.Event.{Event}
use Rattle.mio.specs.Event.{event_token}
use Rattle.server_connections.specs.Table.{timed_at}
use Rattle.server_sockets.specs.declared.open_connections.OpenConnections.{OpenConnections}
use Rattle.server_sockets.specs.Draining.{IsReadyAt}
use Rattle.server_sockets.specs.Waits.{IsQueued, sockets_of}
use denote.Ref.{Bor}

-- a number that is put behind others is among them
pub pushed : (old new : List ℕ) (k : ℕ) → new ≡ old ++ k ∷ [] → Contains new k
pushed old new k is = subst (λ l. Contains l k) (sym is) (Contains-append_right old (k ∷ []) k (0, omega arith, refl))

-- those that stood there stand there still
pub pushed_after : (old new : List ℕ) (n k : ℕ) → new ≡ old ++ n ∷ [] → Contains old k → Contains new k
pushed_after old new n k is there = subst (λ l. Contains l k) (sym is) (Contains-append_left old (n ∷ []) k there)

-- ---- events, one after another

-- what the events were, of references to them
abbrev pub seen : List (Bor Event) → List Event
seen events = map (λ e. e.now) events

-- one more event, and what is left
pub seen_more : (events : List (Bor Event)) (e : Bor Event) (rest after all : List Event) → seen events ++ rest ≡ all → rest ≡ e.now ∷ after
    → seen (events ++ e ∷ []) ++ after ≡ all
seen_more [] e rest after all is next = sym next ∙ is
seen_more (x ∷ xs) e rest after all is next = ap (λ ys. x.now ∷ ys) (seen_more xs e rest after (seen xs ++ rest) refl next) ∙ is

-- no event is left
pub seen_all : (events : List (Bor Event)) (rest all : List Event) → seen events ++ rest ≡ all → length rest ≡ 0 → seen events ≡ all
seen_all [] [] all is none = is
seen_all [] (r ∷ rest) all is none = absurd (omega (arith, none))
seen_all (x ∷ xs) rest all is none = ap (λ ys. x.now ∷ ys) (seen_all xs rest (seen xs ++ rest) refl none) ∙ is

sockets_more : (events : List (Bor Event)) (e : Bor Event) → sockets_of (seen (events ++ e ∷ [])) ≡ sockets_of (seen events) ++ (event_token e.now).0 ∷ []
sockets_more [] e = refl
sockets_more (x ∷ xs) e = ap (λ ks. (event_token x.now).0 ∷ ks) (sockets_more xs e)

-- the socket of the last event is among those of all
pub last_socket : (events : List (Bor Event)) (e : Bor Event) → Contains (sockets_of (seen (events ++ e ∷ []))) (event_token e.now).0
last_socket events e = subst (λ ks. Contains ks (event_token e.now).0) (sym (sockets_more events e)) (Contains-push (sockets_of (seen events)) (event_token e.now).0)

pub earlier_socket : (events : List (Bor Event)) (e : Bor Event) (k : ℕ) → Contains (sockets_of (seen events)) k → Contains (sockets_of (seen (events ++ e ∷ []))) k
earlier_socket events e k there =
    subst (λ ks. Contains ks k) (sym (sockets_more events e)) (Contains-append_left (sockets_of (seen events)) ((event_token e.now).0 ∷ []) k there)

-- there is no other
pub which_socket : (events : List (Bor Event)) (e : Bor Event) (k : ℕ) → Contains (sockets_of (seen (events ++ e ∷ []))) k
    → Contains (sockets_of (seen events)) k ⊎ ((event_token e.now).0 ≡ k)
which_socket events e k there = Contains-push_cases (sockets_of (seen events)) (event_token e.now).0 k (subst (λ ks. Contains ks k) (sockets_more events e) there)

-- ---- connections that are queued

-- what is queued, or gone, stays so
module _ (q r : List ℕ) (start mid new : OpenConnections) (grows : (k : ℕ) → Contains q k → Contains r k)
    (gone : (k : ℕ) → timed_at k mid.connections.table.entries ≡ None → timed_at k new.connections.table.entries ≡ None) where
  pub stays_queued : (k : ℕ) → IsQueued k q start mid → IsQueued k r start new
  stays_queued k (inl queued) = inl (grows k queued)
  stays_queued k (inr (inl ready)) = inr (inl ready)
  stays_queued k (inr (inr none)) = inr (inr (gone k none))

  -- one that is queued now is so since the start, if those that were marked since are
  pub queued_since : (marked : (k : ℕ) → IsReadyAt k mid → IsQueued k q start mid) (k : ℕ) → IsQueued k r mid new → IsQueued k r start new
  queued_since marked k (inl queued) = inl queued
  queued_since marked k (inr (inl ready)) = stays_queued k (marked k ready)
  queued_since marked k (inr (inr none)) = inr (inr none)

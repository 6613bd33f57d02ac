-- Turns, newcomers after them, and rounds one after another.
use Rattle.std.proofs.Common.{◌≡◌, ◌∙◌, ◌<◌, ◌≤◌, ℕ, Err, List, Ok, Option, Result, inl, inr, refl, subst, sym}
use Rattle.std.specs.Prelude.{IsErr, IsErrAnd}
use Rattle.cog_server.specs.Additions.{AddedState, ServiceState}
use Rattle.cog_server.specs.Server.{ServerState}
use Rattle.server_sockets.specs.declared.serving.Limits.{Limits}
use Rattle.server_sockets.specs.declared.serving.Serving.{Serving}
use Rattle.server_sockets.specs.Going.{AllWentOn, AllWentOnOrStart}
use Rattle.server_sockets.specs.Slots.{NobodyComes, NoneChanges, StayOrStart, accepted_of, limits_of, slots_of, slot_count}
use Rattle.disk_files.specs.declared.watched.Watched.{Watched}
use Rattle.server_files.specs.Publishing.{AreLookedAt, ArePublishedAnew, names}
use Rattle.server_files.specs.Rounds.{BrokeOff, IsRound, KeepsLimits, WentRound, served, waited}

-- who went on, and stays as it is when newcomers come, went on
pub went_or_started : (service : ServiceState) (now : ℕ) (a b c : Serving) → AllWentOn service now (slots_of a) (slots_of b) → StayOrStart now b c
    → AllWentOnOrStart service now (slots_of a) (slots_of c)
went_or_started service now a b c turns newcomers = record {
  each = λ k p there. elim (newcomers k p there) [
    | inl stays ↦ inl (turns.each k p stays)
    | inr starts ↦ inr starts
  ];
}

-- ---- limits

-- as many are allowed at first, and then
few_on : (a b c : Serving) → limits_of b ≡ limits_of a → (accepted_of a ≤ (limits_of a).connections → accepted_of b ≤ (limits_of a).connections)
    → (accepted_of b ≤ (limits_of b).connections → accepted_of c ≤ (limits_of b).connections)
    → accepted_of a ≤ (limits_of a).connections → accepted_of c ≤ (limits_of a).connections
few_on a b c limits first then within =
    subst (λ (l : Limits). accepted_of c ≤ l.connections) limits
    (then (subst (λ (l : Limits). accepted_of b ≤ l.connections) (sym limits) (first within)))

-- what is kept at first, and then, is
pub kept_on : (a b c : Serving) → KeepsLimits a b → KeepsLimits b c → KeepsLimits a c
kept_on a b c first then = record {
  limits = then.limits ∙ first.limits;
  room = then.room ∙ first.room;
  few = few_on a b c first.limits first.few then.few;
}

-- where nobody comes, they are kept
pub nobody_keeps : (a b : Serving) → NobodyComes a b → KeepsLimits a b
nobody_keeps a b nobody = record {
  limits = nobody.limits;
  room = nobody.room;
  few = subst (λ (n : ℕ). n ≤ (limits_of a).connections) (sym nobody.accepted);
}

-- and where newcomers are accepted then
pub limits_kept : (a b c : Serving) → NobodyComes a b → limits_of c ≡ limits_of b → slot_count c ≡ slot_count b
    → (accepted_of b ≤ (limits_of b).connections → accepted_of c ≤ (limits_of b).connections) → KeepsLimits a c
limits_kept a b c nobody limits room few = kept_on a b c (nobody_keeps a b nobody) (record { limits = limits; room = room; few = few })

-- ---- rounds

-- what a round does, under the names that the files had at first
round_of : {F : Type 0} (gives : F → Option (List ℕ)) (ns ms : List (List ℕ)) (added : AddedState) (t u : ServerState) (old new : Serving) → ms ≡ ns
    → (now : ℕ) × AllWentOnOrStart (record { catalogue = t.catalogue; added = added }) now (slots_of old) (slots_of new)
    → ArePublishedAnew gives ms t u → (accepted_of new ≡ accepted_of old → u ≡ t) → IsRound gives ns added t old u new
round_of gives ns ms added t u old new same round anew idle =
    record { now = round.0; went = round.1; anew = subst (λ xs. ArePublishedAnew gives xs t u) same anew; idle = idle }

-- one more round
pub round_on : {F : Type 0} (gives : F → Option (List ℕ)) (files before after : List Watched) (added : AddedState) (s t u : ServerState) (first old new : Serving)
    → names before ≡ names files → WentRound gives files added s first t old before
    → (now : ℕ) × AllWentOnOrStart (record { catalogue = t.catalogue; added = added }) now (slots_of old) (slots_of new)
    → ArePublishedAnew gives (names before) t u → (accepted_of new ≡ accepted_of old → u ≡ t) → KeepsLimits old new
    → (accepted_of old < accepted_of new → AreLookedAt before after) → (accepted_of new ≡ accepted_of old → after ≡ before)
    → WentRound gives files added s first u new after
round_on gives files before after added s t u first old new same went round anew idle kept came none =
    served t u old new before after went (round_of gives (names files) (names before) added t u old new same round anew idle)
    (record { came = came; none = none }) kept

-- one more, in which accepting failed
pub broke_on : {F : Type 0} (gives : F → Option (List ℕ)) (files before after : List Watched) (added : AddedState) (s t u : ServerState) (first old new : Serving)
    → names before ≡ names files → WentRound gives files added s first t old before
    → (now : ℕ) × AllWentOnOrStart (record { catalogue = t.catalogue; added = added }) now (slots_of old) (slots_of new)
    → ArePublishedAnew gives (names before) t u → (accepted_of new ≡ accepted_of old → u ≡ t) → KeepsLimits old new → after ≡ before
    → BrokeOff gives files added s first u new after
broke_on gives files before after added s t u first old new same went round anew idle kept stays = record {
  t = t;
  old = old;
  went = subst (λ xs. WentRound gives files added s first t old xs) (sym stays) went;
  round = round_of gives (names files) (names before) added t u old new same round anew idle;
  limits = kept;
}

-- and a wait after a round
pub wait_on : {F : Type 0} (gives : F → Option (List ℕ)) (files after : List Watched) (added : AddedState) (s t : ServerState) (first old new : Serving)
    → WentRound gives files added s first t old after → NoneChanges old new → NobodyComes old new → WentRound gives files added s first t new after
wait_on gives files after added s t first old new went same nobody = waited t old new after went same nobody

-- an error that is handed on is one
pub erred : {A E : Type 0} (r : Result A E) (P : E → Type 0) → IsErrAnd r P → IsErr r
erred (Ok x) P is = absurd is
erred (Err e) P is = refl

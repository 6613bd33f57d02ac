-- The places of the entries whose answers were sent.
use Rattle.std.proofs.Common.{◌≡◌, ℕ, suc, zero, List, [], ◌∷◌, ◌++◌, length, Option, Some, None, refl, sym, ap, ◌∙◌, subst, append-nil}
use Rattle.std.specs.Prelude.{slice_get, option_and_then}
use Rattle.std.specs.Option.{option_to_list}
use Rattle.std.proofs.lemmas.Option.{none-some}
use Rattle.cog_server.specs.declared.server.Answer.{Answer}
use Rattle.world.specs.declared.event.Entry.{Entry}
use Rattle.world.specs.World.{answer_in}
use Rattle.world.specs.State.{AreKept, answer_at, noted}

at_more : (entries : List Entry) (n : Entry) (p : ℕ) (a : Answer) → answer_at entries p ≡ Some a → answer_at (entries ++ n ∷ []) p ≡ Some a
at_more [] n p a is = absurd (none-some a is)
at_more (m ∷ ms) n zero a is = is
at_more (m ∷ ms) n (suc p) a is = at_more ms n p a is

at_new : (entries : List Entry) (n : Entry) → answer_at (entries ++ n ∷ []) (length entries) ≡ answer_in n.effect
at_new [] n = refl
at_new (m ∷ ms) n = at_new ms n

kept_more : (entries : List Entry) (n : Entry) (ps : List ℕ) (sent : List Answer) → AreKept entries ps sent → AreKept (entries ++ n ∷ []) ps sent
kept_more entries n [] [] h = tt
kept_more entries n [] (a ∷ sent) h = h
kept_more entries n (p ∷ ps) [] h = h
kept_more entries n (p ∷ ps) (a ∷ sent) h = (at_more entries n p a h.0, kept_more entries n ps sent h.1)

kept_push : (entries : List Entry) (ps : List ℕ) (sent : List Answer) (p : ℕ) (a : Answer) → AreKept entries ps sent → answer_at entries p ≡ Some a → AreKept entries (ps ++ p ∷ []) (sent ++ a ∷ [])
kept_push entries [] [] p a h is = (is, tt)
kept_push entries [] (b ∷ sent) p a h is = absurd h
kept_push entries (q ∷ ps) [] p a h is = absurd h
kept_push entries (q ∷ ps) (b ∷ sent) p a h is = (h.0, kept_push entries ps sent p a h.1 is)

pub kept_length : (entries : List Entry) (ps : List ℕ) (sent : List Answer) → AreKept entries ps sent → length ps ≡ length sent
kept_length entries [] [] h = refl
kept_length entries [] (a ∷ sent) h = absurd h
kept_length entries (p ∷ ps) [] h = absurd h
kept_length entries (p ∷ ps) (a ∷ sent) h = ap suc (kept_length entries ps sent h.1)

-- the answer of a number is found by its place
pub kept_at : (entries : List Entry) (ps : List ℕ) (sent : List Answer) (k : ℕ) → AreKept entries ps sent → option_and_then (answer_at entries) (slice_get ps k) ≡ slice_get sent k
kept_at entries [] [] k h = refl
kept_at entries [] (a ∷ sent) k h = absurd h
kept_at entries (p ∷ ps) [] k h = absurd h
kept_at entries (p ∷ ps) (a ∷ sent) zero h = h.0
kept_at entries (p ∷ ps) (a ∷ sent) (suc k) h = kept_at entries ps sent k h.1

kept_by : (o : Option Answer) (entries : List Entry) (n : Entry) (ps : List ℕ) (sent : List Answer) → answer_in n.effect ≡ o → AreKept entries ps sent → AreKept (entries ++ n ∷ []) (noted o (length entries) ps) (sent ++ option_to_list o)
kept_by None entries n ps sent is h = subst (AreKept (entries ++ n ∷ []) ps) (sym (append-nil sent)) (kept_more entries n ps sent h)
kept_by (Some a) entries n ps sent is h = kept_push (entries ++ n ∷ []) ps sent (length entries) a (kept_more entries n ps sent h) (at_new entries n ∙ is)

-- the answers after an event are those before and the one that it has sent
pub kept_after : (entries : List Entry) (n : Entry) (ps : List ℕ) (sent : List Answer) → AreKept entries ps sent → AreKept (entries ++ n ∷ []) (noted (answer_in n.effect) (length entries) ps) (sent ++ option_to_list (answer_in n.effect))
kept_after entries n ps sent h = kept_by (answer_in n.effect) entries n ps sent refl h

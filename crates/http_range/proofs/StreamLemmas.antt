-- A stream has one list of answers.
use Rattle.std.proofs.Common.{◌≡◌, ℕ, true, false, List, [], ◌∷◌, length, drop, refl, sym, ap, ◌∙◌, subst}
use Rattle.http_range.specs.Book.{Catalogue}
use Rattle.http_range.specs.Response.{Response, IsAnswer}
use Rattle.http_range.specs.Stream.{IsFirstMessage, AreAnswers}
use Rattle.http_range.specs.Stream.AreAnswers.{full, unfinished, closed, more}
use Rattle.http_range.specs.Laws.{StreamsAreAnsweredOnce}
use Rattle.http_range.proofs.ResponseLemmas.{answers_unique}
use Rattle.http_range.proofs.MessageLemmas.{one_message, no_message}

pub same_response : (catalogue : Catalogue) (stream a b : List ℕ) (s t : Response) → IsFirstMessage stream a → IsFirstMessage stream b
    → IsAnswer catalogue a s → IsAnswer catalogue b t → s ≡ t
same_response catalogue stream a b s t fa fb ha hb =
    answers_unique catalogue b s t (subst (λ (m : List ℕ). IsAnswer catalogue m s) (one_message stream a b fa fb) ha) hb

pub closes_apart : (s t : Response) → s ≡ t → s.close ≡ true → t.close ≡ false → ⊥
closes_apart s t same yes_close no_close =
    let e : true ≡ false = sym yes_close ∙ ap (λ (u : Response). u.close) same ∙ no_close in cc

once : (catalogue : Catalogue) (n : ℕ) (stream : List ℕ) (rs others : List Response) → AreAnswers catalogue n stream rs
    → AreAnswers catalogue n stream others → rs ≡ others
once catalogue _ _ _ _ (full stream) (full _) = refl
once catalogue _ _ _ _ (unfinished n stream none) (unfinished _ _ none') = refl
once catalogue _ _ _ _ (unfinished n stream none) (closed _ _ m s found is ends) = absurd (no_message stream m none found)
once catalogue _ _ _ _ (unfinished n stream none) (more _ _ m s rs found is on later) = absurd (no_message stream m none found)
once catalogue _ _ _ _ (closed n stream m s found is ends) (unfinished _ _ none) = absurd (no_message stream m none found)
once catalogue _ _ _ _ (closed n stream m s found is ends) (closed _ _ m' s' found' is' ends') =
    ap (λ (u : Response). u ∷ []) (same_response catalogue stream m m' s s' found found' is is')
once catalogue _ _ _ _ (closed n stream m s found is ends) (more _ _ m' s' rs found' is' on later) =
    absurd (closes_apart s s' (same_response catalogue stream m m' s s' found found' is is') ends on)
once catalogue _ _ _ _ (more n stream m s rs found is on later) (unfinished _ _ none) = absurd (no_message stream m none found)
once catalogue _ _ _ _ (more n stream m s rs found is on later) (closed _ _ m' s' found' is' ends') =
    absurd (closes_apart s' s (same_response catalogue stream m' m s' s found' found is' is) ends' on)
once catalogue _ _ _ _ (more n stream m s rs found is on later) (more _ _ m' s' rs' found' is' on' later') =
    let same = same_response catalogue stream m m' s s' found found' is is' in
    let front = one_message stream m m' found found' in
    let rest = once catalogue n (drop (length m) stream) rs rs' later
    (subst (λ (x : List ℕ). AreAnswers catalogue n (drop (length x) stream) rs') (sym front) later') in
    ap (λ (u : Response). u ∷ rs) same ∙ ap (λ (t : List Response). s' ∷ t) rest

pub streams_answered_once : StreamsAreAnsweredOnce
streams_answered_once = once

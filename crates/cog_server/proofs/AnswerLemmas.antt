-- The answers to the first messages of a stream begin all its answers.
use Rattle.std.proofs.Common.{◌≡◌, ℕ, true, false, List, [], ◌∷◌, ◌++◌, ◌≤◌, length, drop, refl, sym, ap, ◌∙◌, subst, arith}
use Rattle.http_range.specs.Book.{Catalogue}
use Rattle.http_range.specs.Laws.{AnswersAreUnique, MessagesStay}
use Rattle.http_range.specs.Response.{Response, IsAnswer}
use Rattle.http_range.specs.Stream.{IsFirstMessage, AreAnswers}
use Rattle.http_range.specs.Stream.AreAnswers.{full, unfinished, closed, more}

same_response : (unique : AnswersAreUnique) (stay : MessagesStay) (catalogue : Catalogue) (stream a b : List ℕ) (s t : Response)
    → IsFirstMessage stream a → IsFirstMessage stream b → IsAnswer catalogue a s → IsAnswer catalogue b t → s ≡ t
same_response unique stay catalogue stream a b s t fa fb ha hb =
    unique catalogue b s t (subst (λ (m : List ℕ). IsAnswer catalogue m s) (stay.one stream a b fa fb) ha) hb

closes_apart : (s t : Response) → s ≡ t → s.close ≡ true → t.close ≡ false → ⊥
closes_apart s t same yes_close no_close =
    let e : true ≡ false = sym yes_close ∙ ap (λ (u : Response). u.close) same ∙ no_close in cc

pub begins_all : (unique : AnswersAreUnique) (stay : MessagesStay) (catalogue : Catalogue) (n m : ℕ) (stream : List ℕ) (rs all : List Response)
    → n ≤ m → AreAnswers catalogue n stream rs → AreAnswers catalogue m stream all → (rest : List Response) × (rs ++ rest ≡ all)
begins_all unique stay catalogue _ m _ _ all le (full stream) answered = (all, refl)
begins_all unique stay catalogue _ m _ _ all le (unfinished n stream none) answered = (all, refl)
begins_all unique stay catalogue _ _ _ _ _ le (closed n stream a s first is ends) (full _) = absurd (omega arith)
begins_all unique stay catalogue _ _ _ _ _ le (closed n stream a s first is ends) (unfinished _ _ none) = absurd (stay.apart stream a none first)
begins_all unique stay catalogue _ _ _ _ _ le (closed n stream a s first is ends) (closed _ _ b t first' is' ends') =
    ([], ap (λ (u : Response). u ∷ []) (same_response unique stay catalogue stream a b s t first first' is is'))
begins_all unique stay catalogue _ _ _ _ _ le (closed n stream a s first is ends) (more _ _ b t ts first' is' on later) =
    absurd (closes_apart s t (same_response unique stay catalogue stream a b s t first first' is is') ends on)
begins_all unique stay catalogue _ _ _ _ _ le (more n stream a s rs first is on later) (full _) = absurd (omega arith)
begins_all unique stay catalogue _ _ _ _ _ le (more n stream a s rs first is on later) (unfinished _ _ none) = absurd (stay.apart stream a none first)
begins_all unique stay catalogue _ _ _ _ _ le (more n stream a s rs first is on later) (closed _ _ b t first' is' ends') =
    absurd (closes_apart t s (same_response unique stay catalogue stream b a t s first' first is' is) ends' on)
begins_all unique stay catalogue _ _ _ _ _ le (more n stream a s rs first is on later) (more k _ b t ts first' is' on' later') =
    let same = same_response unique stay catalogue stream a b s t first first' is is' in
    let behind = subst (λ (x : List ℕ). AreAnswers catalogue k (drop (length x) stream) ts) (sym (stay.one stream a b first first')) later' in
    let rest = begins_all unique stay catalogue n k (drop (length a) stream) rs ts (omega arith) later behind in
    (rest.0, ap (λ (u : Response). u ∷ (rs ++ rest.0)) same ∙ ap (λ (us : List Response). t ∷ us) rest.1)

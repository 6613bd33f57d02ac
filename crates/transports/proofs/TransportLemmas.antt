-- What the answers of a server in memory show.
use Rattle.std.proofs.Common.{◌≡◌, ℕ, ◌≤◌, List, [], ◌++◌, inl, inr, Option, Some, None, IfSome, IsSomeAnd, Result, Ok, Err, IfOk, sym, ap, ◌∙◌, subst, append-nil, append_assoc}
use Rattle.std.proofs.lemmas.Option.{same_Some}
use Rattle.http_range.specs.declared.reading.Why.{Why}
use Rattle.http_range.specs.Piece.{SeenPiece}
use Rattle.http_range.specs.Book.{Publication, Book, In, Catalogue, published}
use Rattle.http_range.specs.Honest.{IsFront, IsHonest, IsPieceOfBook, IsPieceOfSome}
use Rattle.http_range.specs.Response.{Response, IsAnswer, text_of}
use Rattle.http_range.specs.Laws.{FrontsAreRead}
use Rattle.cog_client.specs.Client.{ClientState, ahead_of}
use Rattle.cog_client.specs.Progress.{IsOwnAnswer, IsServed, OwnAnswersAreServed, OwnFrontsAreServed, answer_room}
use Rattle.cog_client.specs.Serves.{AsksBy, Serves}
use Rattle.cog_client.specs.Transport.{IsTrueToAll, OrLost, UpTo}
use Rattle.transports.specs.InMemory.{Has, IsAbout, IsAnswerAbout, StandsIn}

-- the answer of a server that has the file, if it carries that file's tag or none
pub shown_answer : FrontsAreRead → (catalogue : Catalogue) (name message text : List ℕ) (s : Response) → IsAnswer catalogue message s
    → text ≡ text_of s → IsAbout name s.name → IsTrueToAll (StandsIn catalogue name) text
shown_answer law catalogue name message text s answers is named book (p, has, among) front cut r reads =
    of r (law.book text name book honest front cut r reads)
  where
    carried : (o : Option (List ℕ)) → IsAbout name o → IfSome o (λ n. (n ≡ name) × IsSomeAnd (published name catalogue) (λ q. In q book))
    carried None about = tt
    carried (Some n) (inl is) =
        let same : n ≡ name = cc in
        let P : Option Publication → Type 0 = λ o. IsSomeAnd o (λ q. In q book) in
        (same, subst P (sym has.there) among)
    carried (Some n) (inr none) = absurd (cc)

    honest : IsHonest text name book
    honest = record {
      catalogue = catalogue;
      message = message;
      response = s;
      lawful = has.lawful;
      answers = answers;
      front = ([], append-nil text ∙ is);
      named = carried s.name named;
    }

    of : (x : Result SeenPiece Why) → IfOk x (IsPieceOfBook name book) → IfOk x (IsPieceOfSome book)
    of (Ok x) is = (is.0, is.1, is.3)
    of (Err why) is = tt

-- a front of what shows only pieces shows only pieces
pub shown_cut : (speaks : Book → Type 0) (front text : List ℕ) → IsFront front text → IsTrueToAll speaks text → IsTrueToAll speaks front
shown_cut speaks front text cut shows book spoken first within =
    shows book spoken first (within.0 ++ cut.0, sym (append_assoc first within.0 cut.0) ∙ ap (λ (t : List ℕ). t ++ cut.0) within.1 ∙ cut.1)

-- so it is, whatever becomes of it
pub shown_fate : {A E : Type 0} (r : Result A E) (items : A → List ℕ) (speaks : Book → Type 0) (text : List ℕ) → IfOk r (λ x. IsFront (items x) text)
    → IsTrueToAll speaks text → IfOk r (λ x. IsTrueToAll speaks (items x))
shown_fate (Ok x) items speaks text cut shows = shown_cut speaks (items x) text cut shows
shown_fate (Err e) items speaks text cut shows = tt

-- what shows only pieces of a server's books does so of those books that are of another server too
pub shown_more : {A E : Type 0} (r : Result A E) (items : A → List ℕ) (speaks more : Book → Type 0) → ((book : Book) → more book → speaks book)
    → IfOk r (λ x. IsTrueToAll speaks (items x)) → IfOk r (λ x. IsTrueToAll more (items x))
shown_more (Ok x) items speaks more less shows = λ book spoken. shows book (less book spoken)
shown_more (Err e) items speaks more less shows = tt

-- its answer about the file that it has, to what a client asks for
own_answer : (catalogue : Catalogue) (name : List ℕ) (p : Publication) → Has catalogue name p → (c : ClientState) (span : _) (request text : List ℕ)
    → AsksBy p c span request → IsAnswerAbout catalogue name request text → IsOwnAnswer c p span text
own_answer catalogue name p has c span request text asks is = record {
  catalogue = catalogue;
  lawful = has.lawful;
  has = ap (λ n. published n catalogue) (sym asks.named ∙ has.named) ∙ has.there;
  asked = asks.asked;
  ahead = ahead_of c;
  asks = asks.asks;
  can = asks.can;
  response = is.response;
  answers = subst (λ m. IsAnswer catalogue m is.response) (same_Some _ _ asks.text) is.answers;
  shown = is.shown;
}

-- a server that has the file serves what a client asks for
pub server_serves : OwnAnswersAreServed → (catalogue : Catalogue) (name : List ℕ) (p : Publication) → Has catalogue name p → Serves (OrLost (IsAnswerAbout catalogue name)) p
server_serves own catalogue name p has c span request text asks is = own c p span text (own_answer catalogue name p has c span request text asks is) asks.knows

-- so do long fronts of its answers
pub server_fronts_serve : OwnFrontsAreServed → (catalogue : Catalogue) (name : List ℕ) (p : Publication) (n : ℕ) → answer_room ≤ n → Has catalogue name p
    → Serves (UpTo n (IsAnswerAbout catalogue name)) p
server_fronts_serve own catalogue name p n enough has c span request text asks is =
    subst (IsServed c p span) (sym is.2) (own c p span is.0 n enough (own_answer catalogue name p has c span request is.0 asks is.1) asks.knows)

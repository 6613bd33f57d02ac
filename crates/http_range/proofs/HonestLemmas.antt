-- What a client reads of an honest answer is a piece of the file that it says, or nothing.
use Rattle.std.proofs.Common.{◌≡◌, ℕ, ◌-◌, ◌⊎◌, inl, inr, Bool, true, false, cond, List, length, take, refl, sym, ap, ◌∙◌, subst, Option, Some, None, Result, Ok, Err}
use Rattle.std.specs.Prelude.{IsErr, IfOk, IfSome, IsSomeAnd}
use Rattle.std.proofs.Math.Dec.{leb}
use Rattle.std.proofs.Math.Seq.{take-append_seam}
use Rattle.http_range.specs.declared.reading.Why.{Why}
use Rattle.http_range.specs.declared.reading.Why.TheVariants.{Cut}
use Rattle.http_range.specs.Reply.{IsSent, head_text}
use Rattle.http_range.specs.Piece.{SeenPiece}
use Rattle.http_range.specs.Reading.{reply_seen, front_seen, tag_seen, front_tag, ReadsAnswer, ReadsCheck}
use Rattle.http_range.specs.Book.{Publication, Book, In, Includes, Covers, Catalogue, IsCatalogue, published}
use Rattle.http_range.specs.Response.{Response, answer_by, text_of, IsAnswer}
use Rattle.http_range.specs.Honest.{IsFront, IsHonest, IsPieceOf, IsPieceOfBook}
use Rattle.http_range.specs.Laws.{AnswersAreSent, FrontsAreRead, ChecksAreRead, HonestyIsKept}
use Rattle.http_fields.specs.Laws.{PartsAreRead}
use Rattle.http_range.proofs.BookLemmas.{published_lawful, tags_tell_one}
use Rattle.http_range.proofs.RoundTrip.{front_head, front_read, front_checked}
use Rattle.http_range.proofs.ResponseLemmas.{Kind, IsRefusal, IsFileAnswer, kind_of, front_same, front_trans}

front_is : (text whole : List ℕ) → IsFront text whole → text ≡ take (length text) whole
front_is text whole front = sym (take-append_seam text front.0) ∙ ap (take (length text)) front.1

refusal_told : (s : Response) (k : ℕ) → IsRefusal s → IsErr (front_seen s.reply s.close s.body k)
refusal_told s k is = by_test (leb (length (head_text s.reply s.close)) k)
  where
    by_test : (t : Bool) → IsErr (cond t (reply_seen s.reply (take (k - length (head_text s.reply s.close)) s.body)) (Err Cut))
    by_test true = is.told (take (k - length (head_text s.reply s.close)) s.body)
    by_test false = refl

file_told : (catalogue : Catalogue) (s : Response) (p : Publication) (k : ℕ) → IsFileAnswer catalogue s p
    → IfOk (front_seen s.reply s.close s.body k) (IsPieceOf p)
file_told catalogue s p k is = by_test (leb (length (head_text s.reply s.close)) k)
  where
    by_test : (t : Bool)
        → IfOk (cond t (reply_seen s.reply (take (k - length (head_text s.reply s.close)) s.body)) (Err Cut)) (IsPieceOf p)
    by_test true = is.told (k - length (head_text s.reply s.close))
    by_test false = tt

err_ok : (p : Publication) (r : Result SeenPiece Why) → IsErr r → IfOk r (IsPieceOf p)
err_ok p (Ok piece) is = absurd (let wrong : false ≡ true = is in cc)
err_ok p (Err why) is = tt

in_book : (name : List ℕ) (book : Book) (p : Publication) → In p book → p.name ≡ name → (r : Result SeenPiece Why)
    → IfOk r (IsPieceOf p) → IfOk r (IsPieceOfBook name book)
in_book name book p there named (Ok piece) is = (p, there, named, is)
in_book name book p there named (Err why) is = tt

no_piece : (name : List ℕ) (book : Book) (r : Result SeenPiece Why) → IsErr r → IfOk r (IsPieceOfBook name book)
no_piece name book (Ok piece) is = absurd (let wrong : false ≡ true = is in cc)
no_piece name book (Err why) is = tt

-- where an answer carries a tag, it is that of the file of this name, which the book has
abbrev IsNamed : List ℕ → Book → Catalogue → Option (List ℕ) → Type 0
IsNamed name book catalogue o = IfSome o (λ n. (n ≡ name) × IsSomeAnd (published name catalogue) (λ p. In p book))

-- the file whose tag it carries
record IsCarried (name : List ℕ) (book : Book) (catalogue : Catalogue) (p : Publication) : Type 0 where
  same : p.name ≡ name
  has : published name catalogue ≡ Some p
  there : In p book

carried : (name : List ℕ) (book : Book) (catalogue : Catalogue) (s : Response) (p : Publication) → IsNamed name book catalogue s.name
    → IsFileAnswer catalogue s p → IsCarried name book catalogue p
carried name book catalogue s p named file =
    let own : IsNamed name book catalogue (Some p.name) = subst (IsNamed name book catalogue) file.named named in
    let has : published name catalogue ≡ Some p = ap (λ (n : List ℕ). published n catalogue) (sym own.0) ∙ file.has in
    let P : Option Publication → Type 0 = λ o. IsSomeAnd o (λ p. In p book) in
    record { same = own.0; has = has; there = subst P has own.1 }

honest_kind : (name : List ℕ) (book : Book) (catalogue : Catalogue) (s : Response) (p : Publication) (k : ℕ)
    → published name catalogue ≡ Some p → IsNamed name book catalogue s.name → Kind catalogue s
    → IfOk (front_seen s.reply s.close s.body k) (IsPieceOf p)
honest_kind name book catalogue s p k has named (inl is) = err_ok p _ (refusal_told s k is)
honest_kind name book catalogue s p k has named (inr file) =
    let e : Some file.0 ≡ Some p = sym (carried name book catalogue s file.0 named file.1).has ∙ has in
    let same : file.0 ≡ p = cc in
    subst (λ (q : Publication). IfOk (front_seen s.reply s.close s.body k) (IsPieceOf q)) same (file_told catalogue s file.0 k file.1)

book_kind : (name : List ℕ) (book : Book) (catalogue : Catalogue) (s : Response) (k : ℕ) → IsNamed name book catalogue s.name
    → Kind catalogue s → IfOk (front_seen s.reply s.close s.body k) (IsPieceOfBook name book)
book_kind name book catalogue s k named (inl is) = no_piece name book _ (refusal_told s k is)
book_kind name book catalogue s k named (inr file) =
    let is = carried name book catalogue s file.0 named file.1 in
    in_book name book file.0 is.there is.same _ (file_told catalogue s file.0 k file.1)

sent_kind : (catalogue : Catalogue) (s : Response) → Kind catalogue s → IsSent s.reply
sent_kind catalogue s (inl is) = is.sent
sent_kind catalogue s (inr file) = file.1.sent

pub answers_are_sent : AnswersAreSent
answers_are_sent catalogue seen lawful = sent_kind catalogue (answer_by catalogue seen) (kind_of catalogue lawful seen)

nameless_kind : (catalogue : Catalogue) (s : Response) (k : ℕ) → s.name ≡ None → Kind catalogue s
    → IsErr (front_seen s.reply s.close s.body k)
nameless_kind catalogue s k none (inl is) = refusal_told s k is
nameless_kind catalogue s k none (inr file) = absurd (let e : Some file.0.name ≡ None = sym file.1.named ∙ none in cc)

-- ---- checks

refusal_checked : (s : Response) (k : ℕ) → IsRefusal s → IsErr (front_tag s.reply s.close k)
refusal_checked s k is = by_test (leb (length (head_text s.reply s.close)) k)
  where
    by_test : (t : Bool) → IsErr (cond t (tag_seen s.reply) (Err Cut))
    by_test true = is.untagged
    by_test false = refl

file_checked : (catalogue : Catalogue) (s : Response) (p : Publication) (k : ℕ) → IsFileAnswer catalogue s p
    → IfOk (front_tag s.reply s.close k) (λ tag. tag ≡ p.tag)
file_checked catalogue s p k is = by_test (leb (length (head_text s.reply s.close)) k)
  where
    by_test : (t : Bool) → IfOk (cond t (tag_seen s.reply) (Err Cut)) (λ tag. tag ≡ p.tag)
    by_test true = is.tagged
    by_test false = tt

abbrev HasTag : Option Publication → List ℕ → Type 0
HasTag o tag = IsSomeAnd o (λ p. tag ≡ p.tag)

err_tag : (o : Option Publication) (r : Result (List ℕ) Why) → IsErr r → IfOk r (HasTag o)
err_tag o (Ok tag) is = absurd (let wrong : false ≡ true = is in cc)
err_tag o (Err why) is = tt

own_tag : (o : Option Publication) (p : Publication) (r : Result (List ℕ) Why) → o ≡ Some p → IfOk r (λ tag. tag ≡ p.tag)
    → IfOk r (HasTag o)
own_tag o p (Ok tag) has is = subst (λ (x : Option Publication). HasTag x tag) (sym has) is
own_tag o p (Err why) has is = tt

checked_kind : (name : List ℕ) (book : Book) (catalogue : Catalogue) (s : Response) (k : ℕ) → IsNamed name book catalogue s.name
    → Kind catalogue s → IfOk (front_tag s.reply s.close k) (HasTag (published name catalogue))
checked_kind name book catalogue s k named (inl is) = err_tag (published name catalogue) _ (refusal_checked s k is)
checked_kind name book catalogue s k named (inr file) =
    own_tag (published name catalogue) file.0 _ (carried name book catalogue s file.0 named file.1).has (file_checked catalogue s file.0 k file.1)

-- ---- honest answers stay honest

stays_cut : (front text name : List ℕ) (book : Book) → IsFront front text → IsHonest text name book → IsHonest front name book
stays_cut front text name book cut h = record {
  catalogue = h.catalogue;
  message = h.message;
  response = h.response;
  lawful = h.lawful;
  answers = h.answers;
  front = front_trans front text (text_of h.response) cut h.front;
  named = h.named;
}

named_later : (name : List ℕ) (book later : Book) (catalogue : Catalogue) → Includes later book → (o : Option (List ℕ))
    → IsNamed name book catalogue o → IsNamed name later catalogue o
named_later name book later catalogue more None is = tt
named_later name book later catalogue more (Some n) is = (is.0, among (published name catalogue) is.1)
  where
    among : (o : Option Publication) → IsSomeAnd o (λ p. In p book) → IsSomeAnd o (λ p. In p later)
    among None there = there
    among (Some p) there = more p there

stays_later : (text name : List ℕ) (book later : Book) → Includes later book → IsHonest text name book → IsHonest text name later
stays_later text name book later more h = record {
  catalogue = h.catalogue;
  message = h.message;
  response = h.response;
  lawful = h.lawful;
  answers = h.answers;
  front = h.front;
  named = named_later name book later h.catalogue more h.response.name h.named;
}

answer_honest : (catalogue : Catalogue) (book : Book) (message : List ℕ) (s : Response) (name : List ℕ) → IsCatalogue catalogue
    → Covers book catalogue → IsAnswer catalogue message s → (s.name ≡ Some name) ⊎ (s.name ≡ None) → IsHonest (text_of s) name book
answer_honest catalogue book message s name lawful covers answers named = record {
  catalogue = catalogue;
  message = message;
  response = s;
  lawful = lawful;
  answers = answers;
  front = front_same (text_of s);
  named = by_kind (subst (Kind catalogue) (sym answers.2) (kind_of catalogue lawful answers.0)) named;
}
  where
    nameless : s.name ≡ None → IsNamed name book catalogue s.name
    nameless none = subst (IsNamed name book catalogue) (sym none) tt

    by_kind : Kind catalogue s → (s.name ≡ Some name) ⊎ (s.name ≡ None) → IsNamed name book catalogue s.name
    by_kind (inl is) named = nameless is.nameless
    by_kind (inr file) (inr none) = nameless none
    by_kind (inr file) (inl some) =
        let p = file.0 in
        let e : Some p.name ≡ Some name = sym file.1.named ∙ some in
        let same : p.name ≡ name = cc in
        let has : published name catalogue ≡ Some p = ap (λ (n : List ℕ). published n catalogue) (sym same) ∙ file.1.has in
        let P : Option Publication → Type 0 = λ o. IsSomeAnd o (λ p. In p book) in
        subst (IsNamed name book catalogue) (sym some) (refl, subst P (sym has) (covers name p has))

kind_in : (text name : List ℕ) (book : Book) (h : IsHonest text name book) → Kind h.catalogue h.response
kind_in text name book h = subst (Kind h.catalogue) (sym h.answers.2) (kind_of h.catalogue h.lawful h.answers.0)

pub law_honesty_is_kept : HonestyIsKept
law_honesty_is_kept = record {
  answered = answer_honest;
  cut = stays_cut;
  later = stays_later;
  lawful = λ text name book p h has. published_lawful name h.catalogue p h.lawful has;
}

-- ---- what is read, by the laws of the parts

module _ (laws : PartsAreRead) where
  front_told : (s : Response) (text : List ℕ) → IsSent s.reply → IsFront text (text_of s) → (r : Result SeenPiece Why) → ReadsAnswer text r
      → r ≡ front_seen s.reply s.close s.body (length text)
  front_told s text sent front r found =
      front_read laws s.reply s.close s.body (length text) sent text (front_is text (text_of s) front) r found

  honest_read : (text name : List ℕ) (book : Book) (p : Publication) (h : IsHonest text name book) → published name h.catalogue ≡ Some p
      → (r : Result SeenPiece Why) → ReadsAnswer text r → IfOk r (IsPieceOf p)
  honest_read text name book p h has r found =
      let s = h.response in
      let kind = kind_in text name book h in
      subst (λ (x : Result SeenPiece Why). IfOk x (IsPieceOf p))
      (sym (front_told s text (sent_kind h.catalogue s kind) h.front r found))
      (honest_kind name book h.catalogue s p (length text) has h.named kind)

  answer_read : (catalogue : Catalogue) (message : List ℕ) (s : Response) (k : ℕ) → IsCatalogue catalogue → IsAnswer catalogue message s
      → (text : List ℕ) → text ≡ take k (text_of s) → (r : Result SeenPiece Why) → ReadsAnswer text r
      → r ≡ front_seen s.reply s.close s.body k
  answer_read catalogue message s k lawful answers text is r found =
      let kind : Kind catalogue s = subst (Kind catalogue) (sym answers.2) (kind_of catalogue lawful answers.0) in
      front_read laws s.reply s.close s.body k (sent_kind catalogue s kind) text is r found

  nameless_read : (text name : List ℕ) (book : Book) (h : IsHonest text name book) → h.response.name ≡ None → (r : Result SeenPiece Why)
      → ReadsAnswer text r → IsErr r
  nameless_read text name book h none r found =
      let s = h.response in
      let kind = kind_in text name book h in
      subst (λ (x : Result SeenPiece Why). IsErr x)
      (sym (front_told s text (sent_kind h.catalogue s kind) h.front r found))
      (nameless_kind h.catalogue s (length text) none kind)

  book_read : (text name : List ℕ) (book : Book) → IsHonest text name book → (r : Result SeenPiece Why) → ReadsAnswer text r
      → IfOk r (IsPieceOfBook name book)
  book_read text name book h r found =
      let s = h.response in
      let kind = kind_in text name book h in
      subst (λ (x : Result SeenPiece Why). IfOk x (IsPieceOfBook name book))
      (sym (front_told s text (sent_kind h.catalogue s kind) h.front r found))
      (book_kind name book h.catalogue s (length text) h.named kind)

  pub law_fronts_are_read : FrontsAreRead
  unfolding stays_cut
  law_fronts_are_read = record {
    head = λ reply close body bytes k r sent is reads. front_head laws reply close body k sent bytes is r reads;
    reply = λ reply close body bytes k r sent is reads. front_read laws reply close body k sent bytes is r reads;
    answer = λ catalogue message bytes s k r lawful answers is reads. answer_read catalogue message s k lawful answers bytes is r reads;
    honest = λ text name book p honest has front cut r reads. honest_read front name book p (stays_cut front text name book cut honest) has r reads;
    book = λ text name book honest front cut r reads. book_read front name book (stays_cut front text name book cut honest) r reads;
    nameless = λ text name book r honest none reads. nameless_read text name book honest none r reads;
    one = tags_tell_one;
  }

  -- ---- checks

  answer_checked : (catalogue : Catalogue) (message bytes : List ℕ) (s : Response) (k : ℕ) (r : Result (List ℕ) Why) → IsCatalogue catalogue
      → IsAnswer catalogue message s → bytes ≡ take k (text_of s) → ReadsCheck bytes r → r ≡ front_tag s.reply s.close k
  answer_checked catalogue message bytes s k r lawful answers is reads =
      let kind : Kind catalogue s = subst (Kind catalogue) (sym answers.2) (kind_of catalogue lawful answers.0) in
      front_checked laws s.reply s.close s.body k (sent_kind catalogue s kind) bytes is r reads

  honest_checked : (text name : List ℕ) (book : Book) (r : Result (List ℕ) Why) (h : IsHonest text name book) → ReadsCheck text r
      → IfOk r (HasTag (published name h.catalogue))
  honest_checked text name book r h reads =
      let s = h.response in
      subst (λ (x : Result (List ℕ) Why). IfOk x (HasTag (published name h.catalogue)))
      (sym (answer_checked h.catalogue h.message text s (length text) r h.lawful h.answers (front_is text (text_of s) h.front) reads))
      (checked_kind name book h.catalogue s (length text) h.named (kind_in text name book h))

  nameless_checked : (text name : List ℕ) (book : Book) (r : Result (List ℕ) Why) (h : IsHonest text name book) → h.response.name ≡ None
      → ReadsCheck text r → IsErr r
  nameless_checked text name book r h none reads =
      let s = h.response in
      subst (λ (x : Result (List ℕ) Why). IsErr x)
      (sym (answer_checked h.catalogue h.message text s (length text) r h.lawful h.answers (front_is text (text_of s) h.front) reads))
      (by_kind (kind_in text name book h))
    where
      by_kind : Kind h.catalogue h.response → IsErr (front_tag h.response.reply h.response.close (length text))
      by_kind (inl is) = refusal_checked h.response (length text) is
      by_kind (inr file) = absurd (let e : Some file.0.name ≡ None = sym file.1.named ∙ none in cc)

  pub checks_are_read : ChecksAreRead
  checks_are_read = record {
    reply = λ reply close body bytes k r sent is reads. front_checked laws reply close body k sent bytes is r reads;
    answer = answer_checked;
    honest = honest_checked;
    nameless = nameless_checked;
  }

-- Whole answers, one after another, lead to a report.
use Rattle.std.proofs.Common.{◌≡◌, ◌⊎◌, ℕ, zero, suc, true, ◌+◌, ◌<◌, ◌≤◌, List, Option, Some, None, Result, Ok, Err, refl, sym, ap, ◌∙◌, subst, arith, inl, inr}
use Rattle.std.specs.Prelude.{IfOk, IfSome, IsOkAnd, IsSome, is_some}
use Rattle.std.specs.Option.{option_map}
use Rattle.std.proofs.lemmas.Bool.{false≢true}
use Rattle.std.proofs.lemmas.Option.{none-some, same_Some}
use Rattle.tiff_dir.specs.declared.query.Query.{Query}
use Rattle.extents.specs.declared.span.Span.{Span}
use Rattle.tiff_dir.specs.Query.{cost}
use Rattle.http_range.specs.Book.{Publication, Book, HasDistinctTags, In}
use Rattle.http_range.specs.Honest.{IsPieceOfBook, IsReadAs}
use Rattle.http_range.specs.Laws.{TagsTellOne}
use Rattle.cog_client.specs.declared.request_options.RequestOptions.{RequestOptions}
use Rattle.cog_client.specs.declared.report.Report.{Report}
use Rattle.cog_client.specs.Case.{Revision}
use Rattle.cog_client.specs.Client.{ClientAgrees, ClientState, Knows, KnowsOne, asked_of, how_of, name_of, query_of, report_of, revision_of, tag_of}
use Rattle.cog_client.specs.Keeps.{AsksLike}
use Rattle.cog_client.specs.Progress.{AnswersReport, AreExchanges, AskingLeavesAsMuch, BringsOn, CostIsMost, DeliveryReports, Exchanges, GoingOnLeavesNoMore, IsGiven, IsOwnAnswer, IsServed, OwnAnswersAreServed, ServedBringOn, left}

-- what is known of the single steps
pub record StepLaws : Type 0 where
  pub own : OwnAnswersAreServed
  pub bring : ServedBringOn
  pub goes : GoingOnLeavesNoMore
  pub asks : AskingLeavesAsMuch
  pub delivery : DeliveryReports
  pub cost_is : CostIsMost
  pub one : TagsTellOne

-- ---- how a client asks

-- what else a caller sees of a client
record IsSeenAs (old new : ClientState) : Type 0 where
  query : query_of new ≡ query_of old
  asked : asked_of new ≡ asked_of old
  revision : revision_of new ≡ revision_of old
  report : report_of new ≡ report_of old

seen_as : (how : RequestOptions) (old new : ClientState) → AsksLike how old new → IsSeenAs old new
unfolding query_of asked_of revision_of report_of
seen_as how old new h = record { query = ap query_of h.seen; asked = ap asked_of h.seen; revision = ap revision_of h.seen; report = ap report_of h.seen }

abbrev tag_by : Option Revision → Option (List ℕ)
tag_by o = option_map (λ (v : Revision). v.tag) o

-- ---- one exchange

-- at most m whole answers are left for a client: nothing of p's file was read yet, or so many blocks are left
abbrev IsWithin : Publication → Query → ℕ → ClientState → Type 0
IsWithin p q m c = (cost p.file q < m) ⊎ ((tag_of c ≡ Some p.tag) × (left p.file c ≤ m) × (1 ≤ m))

some_of : {A : Type 0} (o : Option A) (x : A) (P : A → Type 0) → o ≡ Some x → IfSome o P → P x
some_of o x P is h = subst (λ z. IfSome z P) is h

if_ok : {A E : Type 0} (r : Result A E) (P Q : A → Type 0) → ((x : A) → P x → Q x) → IsOkAnd r P → IfOk r Q
if_ok (Ok x) P Q to h = to x h
if_ok (Err e) P Q to h = absurd h

some_left : (n : ℕ) → (n ≡ 0 → ⊥) → 1 ≤ n
some_left zero not = absurd (not refl)
some_left (suc n) not = omega arith

record IsReading (book : Book) (q : Query) (c : ClientState) : Type 0 where
  agrees : ClientAgrees c book
  query : query_of c ≡ Some q

module _ (laws : StepLaws) (book : Book) (p : Publication) (distinct : HasDistinctTags book) (among : In p book) where
  -- a client that agrees with the book knows p's file, where it has the tag
  knows_file : (c : ClientState) → ClientAgrees c book → tag_of c ≡ Some p.tag → Knows p.file c
  unfolding ClientAgrees
  knows_file c agrees tag = at (revision_of c) refl agrees
    where
      at : (o : Option Revision) → revision_of c ≡ o → IfSome o (KnowsOne c book) → Knows p.file c
      at None is k = absurd (none-some p.tag (sym (ap tag_by is) ∙ tag))
      at (Some v) is k =
          let same_tag : v.tag ≡ p.tag = same_Some _ _ (sym (ap tag_by is) ∙ tag) in
          let same : k.source ≡ p = laws.one book distinct k.source p k.published among (k.of_tag ∙ same_tag) in
          subst (λ (s : Publication). Knows s.file c) same k.knows

  -- so this server's own answer to it is one that any server gives
  own_served : (c : ClientState) → ClientAgrees c book → (span : Span) (text : List ℕ) → IsOwnAnswer c p span text → IsServed c p span text
  own_served c agrees span text own = laws.own c p span text own (knows_file c agrees)

-- each such answer to a client that agrees with the book is as any server gives it
abbrev AreServed : (ClientState → Publication → Span → List ℕ → Type 0) → Book → Publication → Type 0
AreServed Answers book p = (c : ClientState) → ClientAgrees c book → (span : Span) (text : List ℕ) → Answers c p span text → IsServed c p span text

module _ (laws : StepLaws) (book : Book) (p : Publication) (q : Query) (distinct : HasDistinctTags book) (among : In p book) (Answers : ClientState → Publication → Span → List ℕ → Type 0) (are : AreServed Answers book p) where
  known : (c : ClientState) → ClientAgrees c book → tag_of c ≡ Some p.tag → Knows p.file c
  known = knows_file laws book p distinct among

  told_agrees : (c next : ClientState) → ClientAgrees c book → (x : Exchanges Answers p c next) → ClientAgrees x.told book
  told_agrees c next agrees x = x.tells.agrees book agrees

  waits_agrees : (c next : ClientState) → ClientAgrees c book → (x : Exchanges Answers p c next) → ClientAgrees x.waiting book
  waits_agrees c next agrees x = x.looks.agrees book (x.requests.goes.agrees book (told_agrees c next agrees x))

  served_in : (c next : ClientState) → ClientAgrees c book → (x : Exchanges Answers p c next) → IsServed x.waiting p x.span x.text
  served_in c next agrees x = are x.waiting (waits_agrees c next agrees x) x.span x.text x.answered

  -- where the report stands nothing is asked any more
  ends : (c next : ClientState) → ClientAgrees c book → Exchanges Answers p c next → is_some (report_of c) ≡ true → ⊥
  ends c next agrees x stands =
      let told = seen_as x.how c x.told x.tells in
      let waits = seen_as (record (how_of x.asking) { ahead = x.ahead }) x.asking x.waiting x.looks in
      let there : is_some (report_of x.told) ≡ true = ap is_some told.report ∙ stands in
      let still : is_some (report_of x.asking) ≡ true = ap is_some (x.requests.seen.report there) ∙ there in
      let asked : asked_of x.asking ≡ Some x.span = sym waits.asked ∙ (served_in c next agrees x).asked in
      none-some x.span (sym (x.requests.seen.idle (inr still)) ∙ asked)

  step : (m : ℕ) (c next : ClientState) → IsReading book q c → IsWithin p q (suc m) c → Exchanges Answers p c next → IsReading book q next × (IsSome (report_of next) ⊎ IsWithin p q m next)
  step m c next r within x = (record { agrees = after; query = query }, by (report_of next) refl)
    where
      told : IsSeenAs c x.told
      told = seen_as x.how c x.told x.tells

      waits : IsSeenAs x.asking x.waiting
      waits = seen_as (record (how_of x.asking) { ahead = x.ahead }) x.asking x.waiting x.looks

      agrees : ClientAgrees x.waiting book
      agrees = waits_agrees c next r.agrees x

      served : IsServed x.waiting p x.span x.text
      served = served_in c next r.agrees x

      read : IsReadAs (IsPieceOfBook (name_of x.waiting) book) x.text
      read r reads =
          if_ok r (IsGiven p x.span (tag_of x.waiting)) (IsPieceOfBook (name_of x.waiting) book)
          (λ piece given. (p, among, served.named, given.of)) (served.read r reads)

      after : ClientAgrees next book
      after = x.delivers.agrees book distinct agrees read

      query : query_of next ≡ Some q
      query = x.delivers.seen.same.query ∙ waits.query ∙ x.requests.seen.goes.same.query ∙ told.query ∙ r.query

      brings : BringsOn p x.waiting next x.what
      brings = laws.bring x.waiting next p x.span x.text x.what served (known x.waiting agrees) x.delivers

      tag : tag_of next ≡ Some p.tag
      tag = ap tag_by brings.revision

      knows : Knows p.file next
      knows = known next after tag

      most : left p.file next ≤ cost p.file q
      most = some_of (query_of next) q (λ k. left p.file next ≤ cost p.file k) query (laws.cost_is next p.file knows)

      -- less is left than before, where something of the file was read
      less : tag_of c ≡ Some p.tag → left p.file next + 1 ≤ left p.file c
      less had =
          let told_tag : tag_of x.told ≡ Some p.tag = ap tag_by told.revision ∙ had in
          let waiting_tag : tag_of x.waiting ≡ Some p.tag = ap tag_by (waits.revision ∙ x.requests.seen.goes.revision) ∙ told_tag in
          omega (
            arith,
            brings.less waiting_tag,
            laws.asks (record (how_of x.asking) { ahead = x.ahead }) x.asking x.waiting p.file x.looks,
            laws.goes x.told x.asking p.file x.requests.goes (known x.told (told_agrees c next r.agrees x) told_tag),
            laws.asks x.how c x.told p.file x.tells,
          )

      few : IsWithin p q (suc m) c → 1 ≤ left p.file next → left p.file next ≤ m
      few (inl low) more = omega (arith, low, most)
      few (inr had) more = omega (arith, had.1, less had.0)

      by : (o : Option Report) → report_of next ≡ o → IsSome (report_of next) ⊎ IsWithin p q m next
      by (Some t) is = inl (ap is_some is)
      by None is =
          let more : 1 ≤ left p.file next = some_left (left p.file next) (λ e.
          false≢true (sym (ap is_some is)
          ∙ laws.delivery x.waiting next x.text x.what p.file x.delivers brings.used (record { revision = ap is_some brings.revision; knows = knows; query = ap is_some query }) e)) in
          inr (inr (tag, few within more, omega (arith, few within more, more)))

  -- ---- so many

  reach : (n m : ℕ) (c new : ClientState) → IsReading book q c → IsSome (report_of c) ⊎ IsWithin p q m c → AreExchanges Answers p n c new → (n ≤ m) × (IsSome (report_of new) ⊎ (n + 1 ≤ m))
  reach zero m c new r (inl stands) is = (omega arith, inl (ap (λ (x : ClientState). is_some (report_of x)) is ∙ stands))
  reach zero m c new r (inr within) is = (omega arith, inr (some within))
    where
      some : IsWithin p q m c → 1 ≤ m
      some (inl low) = omega (arith, low)
      some (inr had) = had.2
  reach (suc n) m c new r (inl stands) (mid, x, rest) = absurd (ends c mid r.agrees x stands)
  reach (suc n) zero c new r (inr within) (mid, x, rest) = absurd (elim within [ inl low ↦ omega (arith, low) | inr had ↦ omega (arith, had.2) ])
  reach (suc n) (suc m) c new r (inr within) (mid, x, rest) =
      let on = step m c mid r within x in
      let far = reach n m mid new on.0 on.1 rest in
      (omega (arith, far.0), elim far.1 [ inl stands ↦ inl stands | inr few ↦ inr (omega (arith, few)) ])

module _ (laws : StepLaws) (Answers : ClientState → Publication → Span → List ℕ → Type 0) (are : (book : Book) (p : Publication) → HasDistinctTags book → In p book → AreServed Answers book p) where
  pub answers_report : AnswersReport Answers
  unfolding query_of
  answers_report book p q old opened new n distinct among agrees opens exchanges =
      let begins : IsReading book q opened = record { agrees = opens.agrees book agrees; query = ap query_of opens.seen.1 } in
      let far = reach laws book p q distinct among Answers (are book p distinct among) n (cost p.file q + 1) opened new begins (inr (inl (omega arith))) exchanges in
      (far.0, elim far.1 [ inl stands ↦ inl stands | inr few ↦ inr (omega (arith, few)) ])

pub served_report : StepLaws → AnswersReport IsServed
served_report laws = answers_report laws IsServed (λ book p distinct among c agrees span text served. served)

pub own_report : StepLaws → AnswersReport IsOwnAnswer
own_report laws = answers_report laws IsOwnAnswer (λ book p distinct among. own_served laws book p distinct among)

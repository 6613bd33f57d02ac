-- What a client holds while an answer comes to it, and what it keeps of this answer.
use Rattle.std.specs.Prelude.{◌≡◌, ◌⊎◌, ℕ, ◌-◌, List, [], ◌++◌, length, take, Some, Ok}
use Rattle.http_range.specs.Announced.{Announced, body_behind}
use Rattle.http_range.specs.Book.{Book, HasDistinctTags}
use Rattle.http_range.specs.Honest.{IsPieceOfBook, IsReadAs}
use Rattle.http_range.specs.Reading.{ReadsHead}
use Rattle.cog_client.specs.declared.body.Body.{Body}
use Rattle.cog_client.specs.declared.case.Case.{Case}
use Rattle.cog_client.specs.declared.case.Case.TheVariants.{Ignored, Adopted, Restarted, Accepted}
use Rattle.cog_client.specs.declared.delivered.Ignored as why
use Rattle.cog_client.specs.PartialAnswer.{IsHeadless}
use Rattle.cog_client.specs.Body.{IsBody}
use Rattle.cog_client.specs.Case.{Revision}
use Rattle.cog_client.specs.Client.{ClientAgrees, ClientState, asked_of, blocks_of, feed_of, name_of, revision_of}
use Rattle.cog_client.specs.Fed.{case_of_head}
use Rattle.cog_client.specs.AnswerPhase.{Feed, nothing_fed, passed, follows}
use Rattle.cog_client.specs.Steps.{Adopts}
use Rattle.cog_client.specs.Take.{first_span}

-- In what follows `s` is the client when the answer began, `p` the front of the answer that came, and `c` the client now.

-- the case of the head for the client `s`
abbrev pub case_for : ClientState → Announced → Case
case_for s head = case_of_head (revision_of s) (asked_of s) head

-- the revision that a head announces
abbrev pub revision_of_head : Announced → Revision
revision_of_head head = record { tag = head.tag; complete = head.complete }

-- What the head makes of the client, before any byte of the body. If the case says so, another revision is read. Or else only the feed
-- changes.
abbrev pub Begins : Case → Announced → ClientState → ClientState → Type 0
Begins (Ignored w) head s mid = ⊥
Begins Adopted head s mid = Adopts (revision_of_head head) (asked_of s) s mid
Begins Restarted head s mid = Adopts (revision_of_head head) (Some first_span) s mid
Begins Accepted head s mid = (e : Feed) × (mid ≡ record s { feed = e })

-- There is no head so far, or its answer isn't used. Nothing but the feed changed.
pub record FedHeadless (s : ClientState) (p : List ℕ) (c : ClientState) : Type 0 where
  pub feed : IsHeadless p (feed_of c)
  pub same : c ≡ record s { feed = feed_of c }

-- The case of the head says that the body is passed over.
pub record FedPassed (head : Announced) (s : ClientState) (c : ClientState) : Type 0 where
  pub reason : why.Ignored
  pub is : case_for s head ≡ Ignored reason
  pub same : c ≡ record s { feed = passed reason }

-- `body` was taken so far: its blocks are stored over what the head made of the client.
pub record FedBody (head : Announced) (s : ClientState) (body : List ℕ) (c : ClientState) : Type 0 where
  pub taken : Body
  pub part : List ℕ
  pub feed : feed_of c ≡ follows head (case_for s head) taken part
  pub mid : ClientState
  pub begins : Begins (case_for s head) head s mid
  pub asked : asked_of mid ≡ Some taken.span
  pub is : IsBody head (blocks_of mid) body taken part (blocks_of c)
  pub same : c ≡ record mid { cache = blocks_of c; feed = feed_of c }

-- the head is whole, and `body` was treated by its case so far
abbrev pub FedBy : Announced → ClientState → List ℕ → ClientState → Type 0
FedBy head s body c = FedPassed head s c ⊎ FedBody head s body c

-- The client was `s` when the answer began, the front `p` of it came, and the client is `c` now.
abbrev pub Fed : ClientState → List ℕ → ClientState → Type 0
Fed s p c =
    FedHeadless s p c ⊎ ((head : Announced) × ReadsHead p (Ok head) × FedBy head s (body_behind head p) c)

-- A client that keeps nothing of an answer is one to which no byte of an answer came.
abbrev pub AnswersBeginAnywhere : Type 0
AnswersBeginAnywhere = (c : ClientState) → feed_of c ≡ nothing_fed → Fed c [] c

-- The same, but the last bytes, `rest`, are still to be taken of the body.
pub record FedAllBut (s : ClientState) (p rest : List ℕ) (c : ClientState) : Type 0 where
  pub head : Announced
  pub reads : ReadsHead p (Ok head)
  pub body : List ℕ
  pub by : FedBy head s body c
  pub joins : body ++ take (head.length - length body) rest ≡ body_behind head p

abbrev pub FedBefore : ClientState → List ℕ → List ℕ → ClientState → Type 0
FedBefore s p rest c = FedHeadless s p c ⊎ FedAllBut s p rest c

-- A client that agreed with a book of distinct ETags agrees with it within an answer, too. This holds if what came of the answer is read
-- as a piece of a file of the client's name in the book.
abbrev pub FrontsKeepAgreement : Type 0
FrontsKeepAgreement = (s c : ClientState) (p : List ℕ) (book : Book) → Fed s p c → HasDistinctTags book → ClientAgrees s book
    → IsReadAs (IsPieceOfBook (name_of s) book) p → ClientAgrees c book

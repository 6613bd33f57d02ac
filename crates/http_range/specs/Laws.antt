-- Laws of the definitions. Each is the contract of a function in `laws`.
use Rattle.std.specs.Prelude.{◌≡◌, ◌≢◌, ◌<◌, ◌≤◌, ◌^◌, ◌-◌, ◌↔◌, ◌⊎◌, ℕ, suc, Bool, true, false, IsTrue, IsErr, IfOk, IsSomeAnd, List, [], ◌∷◌, ◌++◌, length, take, drop, Option, Some, None, Result, Ok, Err}
use Rattle.httparse.specs.Grammar.{RequestHead, IsRequestHead, print_request}
use Rattle.http_range.specs.Ask.{CanAsk, request_by, request_with, CanCheck, check_text, check_with}
use Rattle.http_range.specs.Book.{Publication, IsPublication, Book, In, HasDistinctTags, Includes, Covers, Catalogue, IsCatalogue, published, publish, publication_tag}
use Rattle.http_range.specs.Response.{Response, answer_by, ending, text_of, IsAnswer, response_to_client, response_to_check}
use Rattle.http_fields.specs.declared.limits.TheConstants.{HEAD_LIMIT, MESSAGE_LIMIT}
use Rattle.http_range.specs.Seen.{SeenRequest, HasRequest}
use Rattle.http_range.specs.Scan.{is_message}
use Rattle.http_range.specs.Stream.{AreAnswers, HasNoMessage, IsAnswered, IsFirstMessage, IsMessage, IsUnfinished}
use Rattle.http_range.specs.Honest.{IsFront, IsHonest, IsPieceOf, IsPieceOfBook, ShowsOnly}
use Rattle.http_range.specs.declared.reading.Why.{Why}
use Rattle.http_range.specs.declared.reading.Why.TheVariants.{Cut, Head}
use Rattle.http_range.specs.declared.reply.Reply.{Reply}
use Rattle.http_range.specs.Reply.{IsSent, head_text}
use Rattle.http_range.specs.Piece.{SeenPiece}
use Rattle.http_range.specs.Announced.{Announced, body_behind, FitsFront}
use Rattle.http_range.specs.declared.frame.Frame.{Frame}
use Rattle.http_range.specs.Frame.{ReadsFrame}
use Rattle.http_range.specs.Reading.{front_seen, front_announced, front_tag, ReadsHead, ReadsAnswer, ReadsCheck}
use Rattle.http_range.specs.ContentRange.{IsContentRange, range_of}
use Rattle.http_range.specs.declared.reading.ContentRange.{ContentRange}
use Rattle.http_fields.specs.Tag.{is_kept_tag}
use Rattle.http_fields.specs.Names.{is_host, is_name}
use Rattle.http_fields.specs.Text.{FieldLine}
pub use Rattle.http_fields.specs.Laws.{TagsAreQuoted, LimitsAre}

-- equal ETags of publications have the same epoch and the same number
abbrev pub TagsTellPublications : Type 0
TagsTellPublications =
    (e n f m : ℕ) → e < 2 ^ 64 → n < 2 ^ 64 → f < 2 ^ 64 → m < 2 ^ 64
    → publication_tag e n ≡ publication_tag f m → (e ≡ f) × (n ≡ m)

-- the ETag of a publication keeps the limits of ETags that are kept
abbrev pub PublicationTagsAreKept : Type 0
PublicationTagsAreKept = (e n : ℕ) → e < 2 ^ 64 → n < 2 ^ 64 → IsTrue (is_kept_tag (publication_tag e n))

-- where ETags are distinct, an ETag belongs to one publication
abbrev pub TagsTellOne : Type 0
TagsTellOne = (book : Book) → HasDistinctTags book → (p q : Publication) → In p book → In q book → p.tag ≡ q.tag → p ≡ q

-- What a server answers may be sent: its ETag is one that is kept, its positions lie within the file, its numbers are below 2^64.
abbrev pub AnswersAreSent : Type 0
AnswersAreSent =
    (catalogue : Catalogue) (seen : Option SeenRequest) → IsCatalogue catalogue → IsSent (answer_by catalogue seen).reply

-- a message has one answer
abbrev pub AnswersAreUnique : Type 0
AnswersAreUnique =
    (catalogue : Catalogue) (message : List ℕ) (s t : Response)
    → IsAnswer catalogue message s → IsAnswer catalogue message t → s ≡ t

-- a stream has one list of answers
abbrev pub StreamsAreAnsweredOnce : Type 0
StreamsAreAnsweredOnce =
    (catalogue : Catalogue) (n : ℕ) (stream : List ℕ) (rs others : List Response)
    → AreAnswers catalogue n stream rs → AreAnswers catalogue n stream others → rs ≡ others

-- facts of the first message of a stream
pub record MessagesStay : Type 0 where
  -- the first message of a stream stays the first one when bytes follow
  pub found : (stream message more : List ℕ) → IsFirstMessage stream message → IsFirstMessage (stream ++ more) message
  -- it has 1 to 8,192 bytes, and the stream begins with it
  pub short : (stream message : List ℕ) → IsFirstMessage stream message
      → (1 ≤ length message) × (length message ≤ MESSAGE_LIMIT) × (message ++ drop (length message) stream ≡ stream)
  -- there is only one first message
  pub one : (stream message other : List ℕ) → IsFirstMessage stream message → IsFirstMessage stream other → message ≡ other
  -- an unfinished stream is shorter than a message may be, and when bytes follow, none of its fronts becomes a message
  pub unfinished : (stream more : List ℕ) → IsUnfinished stream
      → (length stream < MESSAGE_LIMIT) × HasNoMessage (stream ++ more) (length stream)
  -- the empty front is no message
  pub none : (stream : List ℕ) → HasNoMessage stream 0
  -- an unfinished stream has no first message
  pub apart : (stream message : List ℕ) → IsUnfinished stream → ¬ (IsFirstMessage stream message)

-- reading backwards from the end finds the messages
abbrev pub MessagesAreTested : Type 0
MessagesAreTested = (front : List ℕ) → (is_message front ≡ true) ↔ IsMessage front

-- the text of a request's head of at most 8,192 bytes is the first message of each stream that begins with it
abbrev pub HeadsAreMessages : Type 0
HeadsAreMessages =
    (h : RequestHead) (more : List ℕ) → IsRequestHead h → length (print_request h) ≤ MESSAGE_LIMIT
    → IsFirstMessage (print_request h ++ more) (print_request h)

-- a head that is read of `bytes` is read of them with `more`, too
abbrev pub HeadsStay : Type 0
HeadsStay =
    (bytes more : List ℕ) (seen : SeenRequest) → HasRequest bytes (Some seen) → HasRequest (bytes ++ more) (Some seen)

-- what is answered to a client's request, whatever follows it in the stream
abbrev pub ClientsAreAnswered : Type 0
ClientsAreAnswered =
    (catalogue : Catalogue) (host name : List ℕ) (extra : List FieldLine) (more : List ℕ) (first last : ℕ) (tag : Option (List ℕ)) (response : Response)
    → CanAsk host name extra first last tag → first ≤ last
    → IsAnswer catalogue (request_with true host name extra first last tag ++ more) response
    ↔ (response ≡ response_to_client (published name catalogue) first last tag)

-- the same whether the connection is to end or may go on: only `close` of the answer differs
abbrev pub RequestsAreAnswered : Type 0
RequestsAreAnswered =
    (catalogue : Catalogue) (close : Bool) (host name : List ℕ) (extra : List FieldLine) (more : List ℕ) (first last : ℕ) (tag : Option (List ℕ))
    (response : Response)
    → CanAsk host name extra first last tag → first ≤ last
    → IsAnswer catalogue (request_with close host name extra first last tag ++ more) response
    ↔ (response ≡ ending close (response_to_client (published name catalogue) first last tag))

-- what is answered to a client's check, whatever follows it: 304 exactly where the file still has the ETag
abbrev pub ChecksAreAnswered : Type 0
ChecksAreAnswered =
    (catalogue : Catalogue) (host name : List ℕ) (extra : List FieldLine) (tag more : List ℕ) (response : Response) → CanCheck host name extra tag
    → IsAnswer catalogue (check_with host name extra tag ++ more) response
    ↔ (response ≡ response_to_check (published name catalogue) tag)

-- a client's request at the front of a stream has exactly this one answer, whatever follows
abbrev pub ClientsAreServed : Type 0
ClientsAreServed =
    (catalogue : Catalogue) (host name : List ℕ) (extra : List FieldLine) (more : List ℕ) (first last : ℕ) (tag : Option (List ℕ)) (rs : List Response)
    → CanAsk host name extra first last tag → first ≤ last
    → IsAnswered catalogue (request_with true host name extra first last tag ++ more) rs
    ↔ (rs ≡ response_to_client (published name catalogue) first last tag ∷ [])

-- a request that lets the connection go on has its answer, and then come the answers to what follows
abbrev pub OpenClientsAreServed : Type 0
OpenClientsAreServed =
    (catalogue : Catalogue) (n : ℕ) (host name : List ℕ) (extra : List FieldLine) (more : List ℕ) (first last : ℕ) (tag : Option (List ℕ)) (rs : List Response)
    → CanAsk host name extra first last tag → first ≤ last
    → AreAnswers catalogue (suc n) (request_with false host name extra first last tag ++ more) rs
    ↔ ((later : List Response) × (rs ≡ ending false (response_to_client (published name catalogue) first last tag) ∷ later)
    × AreAnswers catalogue n more later)

-- a check has its answer, and nothing after the check has one
abbrev pub ChecksAreServed : Type 0
ChecksAreServed =
    (catalogue : Catalogue) (host name : List ℕ) (extra : List FieldLine) (tag more : List ℕ) (rs : List Response) → CanCheck host name extra tag
    → IsAnswered catalogue (check_with host name extra tag ++ more) rs
    ↔ (rs ≡ response_to_check (published name catalogue) tag ∷ [])

-- How long the texts of a client's request and check are at most. The first two hold of all clients. The others hold of a host and a
-- name as plain clients have them, without added fields.
pub record RequestsAreShort : Type 0 where
  pub asked : (close : Bool) (host name : List ℕ) (extra : List FieldLine) (first last : ℕ) (tag : Option (List ℕ))
      → CanAsk host name extra first last tag → length (request_with close host name extra first last tag) ≤ 4096
  pub checked : (host name : List ℕ) (extra : List FieldLine) (tag : List ℕ)
      → CanCheck host name extra tag → length (check_with host name extra tag) ≤ 4096
  pub plain : (close : Bool) (host name : List ℕ) (first last : ℕ) (tag : Option (List ℕ)) → IsTrue (is_host host)
      → IsTrue (is_name name) → CanAsk host name [] first last tag → length (request_by close host name first last tag) ≤ 1024
  pub plain_check : (host name tag : List ℕ) → IsTrue (is_host host) → IsTrue (is_name name) → CanCheck host name [] tag
      → length (check_text host name tag) ≤ 1024

-- a publication is what its name has then, and other names keep what they have
pub record PublishReplaces : Type 0 where
  pub stands : (p : Publication) (catalogue : Catalogue) → published p.name (publish p catalogue) ≡ Some p
  pub others : (p : Publication) (catalogue : Catalogue) (name : List ℕ) → name ≢ p.name
      → published name (publish p catalogue) ≡ published name catalogue
  pub lawful : (p : Publication) (catalogue : Catalogue) → IsPublication p → IsCatalogue catalogue
      → IsCatalogue (publish p catalogue)

-- what a catalogue has under a name has this name, and keeps the limits
pub record PublishedIsNamed : Type 0 where
  pub named : (name : List ℕ) (catalogue : Catalogue) (p : Publication) → published name catalogue ≡ Some p → p.name ≡ name
  pub lawful : (name : List ℕ) (catalogue : Catalogue) (p : Publication) → IsCatalogue catalogue
      → published name catalogue ≡ Some p → IsPublication p

-- honest answers stay honest
pub record HonestyIsKept : Type 0 where
  -- Let the book have a server's files. Then an answer with an ETag is honest for the name of its file, and one without for every name.
  pub answered : (catalogue : Catalogue) (book : Book) (message : List ℕ) (s : Response) (name : List ℕ) → IsCatalogue catalogue
      → Covers book catalogue → IsAnswer catalogue message s → (s.name ≡ Some name) ⊎ (s.name ≡ None)
      → IsHonest (text_of s) name book
  -- a front of an honest answer is honest
  pub cut : (front text name : List ℕ) (book : Book) → IsFront front text → IsHonest text name book → IsHonest front name book
  -- an honest answer is so for each later book
  pub later : (text name : List ℕ) (book later : Book) → Includes later book → IsHonest text name book → IsHonest text name later
  -- what the answer's catalogue has under a name keeps the limits
  pub lawful : (text name : List ℕ) (book : Book) (p : Publication) (honest : IsHonest text name book)
      → published name honest.catalogue ≡ Some p → IsPublication p

-- no head is read: it isn't whole, or it is refused
abbrev pub HasNone : Result Announced Why → Type 0
HasNone r = (r ≡ Err Cut) ⊎ (r ≡ Err Head)

-- what is read of the head at the front of an answer stays when bytes follow
pub record HeadsGrow : Type 0 where
  -- what isn't *cut* is read of the longer bytes, too
  pub stays : (front more : List ℕ) (r : Result Announced Why) → r ≢ Err Cut → ReadsHead front r → ReadsHead (front ++ more) r
  -- a head of which 4,096 bytes are there is not *cut*
  pub decided : (bytes : List ℕ) (r : Result Announced Why) → HEAD_LIMIT ≤ length bytes → ReadsHead bytes r → r ≢ Err Cut
  -- a whole head is read in one way
  pub one : (bytes : List ℕ) (head : Announced) (r : Result Announced Why) → ReadsHead bytes (Ok head) → ReadsHead bytes r
      → r ≡ Ok head
  -- all bytes of the head are there
  pub fits : (bytes : List ℕ) (head : Announced) → ReadsHead bytes (Ok head) → FitsFront bytes head
  -- of the bytes that follow a front, the body gets those that it still lacks
  pub body : (front more : List ℕ) (head : Announced) → ReadsHead front (Ok head)
      → body_behind head (front ++ more)
      ≡ body_behind head front ++ take (head.length - length (body_behind head front)) more
  -- if no head is read in one way, none is read in another
  pub none : (bytes : List ℕ) (r other : Result Announced Why) → HasNone r → ReadsHead bytes r → ReadsHead bytes other → HasNone other
  -- no bytes have no head
  pub empty : (r : Result Announced Why) → ReadsHead [] r → HasNone r
  -- a head that is read only after bytes follow ends among those
  pub behind : (front more : List ℕ) (head : Announced) → ((r : Result Announced Why) → ReadsHead front r → HasNone r)
      → ReadsHead (front ++ more) (Ok head) → length front < head.size

-- where an answer ends stays so when bytes follow
pub record FramesGrow : Type 0 where
  -- what isn't *cut* is read of the longer bytes, too
  pub stays : (front more : List ℕ) (r : Result Frame Why) → r ≢ Err Cut → ReadsFrame front r → ReadsFrame (front ++ more) r
  -- a head of which 4,096 bytes are there is not *cut*
  pub decided : (bytes : List ℕ) (r : Result Frame Why) → HEAD_LIMIT ≤ length bytes → ReadsFrame bytes r → r ≢ Err Cut
  -- a whole head is read in one way
  pub one : (bytes : List ℕ) (frame : Frame) (r : Result Frame Why) → ReadsFrame bytes (Ok frame) → ReadsFrame bytes r → r ≡ Ok frame
  -- a head has one byte or more, all are there, and they are at most 4,096
  pub some : (bytes : List ℕ) (frame : Frame) → ReadsFrame bytes (Ok frame) → 0 < frame.size
  pub there : (bytes : List ℕ) (frame : Frame) → ReadsFrame bytes (Ok frame) → frame.size ≤ length bytes
  pub short : (bytes : List ℕ) (frame : Frame) → ReadsFrame bytes (Ok frame) → frame.size ≤ HEAD_LIMIT
  -- its own bytes are enough to read it
  pub own : (bytes : List ℕ) (frame : Frame) → ReadsFrame bytes (Ok frame) → ReadsFrame (take frame.size bytes) (Ok frame)
  -- a head that is read only after bytes follow ends among those
  pub behind : (front more : List ℕ) (frame : Frame) → ((f : Frame) → ¬ (ReadsFrame front (Ok f))) → ReadsFrame (front ++ more) (Ok frame)
      → length front < frame.size
  -- the length is that of the announced body
  pub announced : (bytes : List ℕ) (head : Announced) (frame : Frame) → ReadsHead bytes (Ok head) → ReadsFrame bytes (Ok frame)
      → (frame.length ≡ Some head.length) × (frame.size ≡ head.size)

-- what is read of an answer, or of a front of it
pub record FrontsAreRead : Type 0 where
  -- the first `k` bytes of a reply with its body are read as the head of this reply, or as cut within it
  pub head : (reply : Reply) (close : Bool) (body bytes : List ℕ) (k : ℕ) (r : Result Announced Why) → IsSent reply
      → bytes ≡ take k (head_text reply close ++ body) → ReadsHead bytes r → r ≡ front_announced reply close k
  -- the first `k` bytes of a reply with its body are read as this reply, or as cut within its head
  pub reply : (reply : Reply) (close : Bool) (body bytes : List ℕ) (k : ℕ) (r : Result SeenPiece Why) → IsSent reply
      → bytes ≡ take k (head_text reply close ++ body) → ReadsAnswer bytes r → r ≡ front_seen reply close body k
  -- so are those of a server's answer
  pub answer : (catalogue : Catalogue) (message bytes : List ℕ) (s : Response) (k : ℕ) (r : Result SeenPiece Why)
      → IsCatalogue catalogue → IsAnswer catalogue message s → bytes ≡ take k (text_of s) → ReadsAnswer bytes r
      → r ≡ front_seen s.reply s.close s.body k
  -- an honest answer for a name shows only pieces of the file that its catalogue has under this name
  pub honest : (text name : List ℕ) (book : Book) (p : Publication) (honest : IsHonest text name book)
      → published name honest.catalogue ≡ Some p → ShowsOnly (IsPieceOf p) text
  -- an honest answer for a name shows only pieces of files of this name in the book
  pub book : (text name : List ℕ) (book : Book) → IsHonest text name book → ShowsOnly (IsPieceOfBook name book) text
  -- an answer without an ETag gives no piece
  pub nameless : (text name : List ℕ) (book : Book) (r : Result SeenPiece Why) (honest : IsHonest text name book)
      → honest.response.name ≡ None → ReadsAnswer text r → IsErr r
  -- and the ETag of a piece belongs to one publication
  pub one : TagsTellOne

-- what a client's check reads of an answer, or of a front of it
pub record ChecksAreRead : Type 0 where
  -- of the first `k` bytes of a reply with its body the reply's ETag is read, or they are read as cut within its head
  pub reply : (reply : Reply) (close : Bool) (body bytes : List ℕ) (k : ℕ) (r : Result (List ℕ) Why) → IsSent reply
      → bytes ≡ take k (head_text reply close ++ body) → ReadsCheck bytes r → r ≡ front_tag reply close k
  -- so it is with those of a server's answer
  pub answer : (catalogue : Catalogue) (message bytes : List ℕ) (s : Response) (k : ℕ) (r : Result (List ℕ) Why)
      → IsCatalogue catalogue → IsAnswer catalogue message s → bytes ≡ take k (text_of s) → ReadsCheck bytes r
      → r ≡ front_tag s.reply s.close k
  -- an ETag that is read of an honest answer for a name is that of the file that its catalogue has under this name
  pub honest : (text name : List ℕ) (book : Book) (r : Result (List ℕ) Why) (honest : IsHonest text name book) → ReadsCheck text r
      → IfOk r (λ tag. IsSomeAnd (published name honest.catalogue) (λ p. tag ≡ p.tag))
  -- an answer without an ETag gives none
  pub nameless : (text name : List ℕ) (book : Book) (r : Result (List ℕ) Why) (honest : IsHonest text name book)
      → honest.response.name ≡ None → ReadsCheck text r → IsErr r

-- a Content-Range is read exactly where it has the form `bytes a-b/l`
abbrev pub ContentRangesAreForms : Type 0
ContentRangesAreForms =
    (text : List ℕ) (range : ContentRange) → (range_of text ≡ Some range) ↔ IsContentRange text range

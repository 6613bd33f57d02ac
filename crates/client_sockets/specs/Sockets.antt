-- What callers know of a source over sockets.
use Rattle.std.specs.Prelude.{◌≡◌, ◌⊎◌, ◌≤◌, ◌<◌, ◌+◌, ℕ, Bool, true, false, List, [], ◌∷◌, ◌++◌, length, take, drop, None, Some, IsSome}
use Rattle.client_connection.specs.Status.{Status, Takes, after_finish, after_open}
use Rattle.client_connection.specs.declared.parts.Part.{Part}
use Rattle.client_connection.specs.declared.parts.Part.TheVariants.{Body}
use Rattle.client_sockets.specs.declared.socket.Socket.{Socket}

-- the exchanges so far
abbrev pub exchanges_of : {R : Type 0} → Socket R → ℕ
exchanges_of s = s.exchanges

-- the server's address, as it was given
abbrev pub server_of : {R : Type 0} → Socket R → List ℕ
server_of s = s.server.now

-- the socket keeps its connections
abbrev pub keeps : {R : Type 0} → Socket R → Bool
keeps s = s.keeps

-- the client's end of its connections
abbrev pub connection_of : {R : Type 0} → Socket R → Status
connection_of s = s.connection

-- the bytes that were read and that the connection hasn't taken
abbrev pub unread_of : {R : Type 0} → Socket R → List ℕ
unread_of s = s.unread.items

-- the answer was whole, and nothing more of it is handed on
abbrev pub is_over : {R : Type 0} → Socket R → Bool
is_over s = s.is_over

-- there is a new connection, on which the first request was written
abbrev pub sent_anew : Status → Status
sent_anew s = record (after_open s) { waits = [] }

-- nothing came of an answer, on a connection that hasn't gone on after one
abbrev pub IsUntouched : Status → Type 0
IsUntouched s = (s.head ≡ []) × (s.left ≡ None) × (s.interims ≡ 0) × (s.kept ≡ false)

-- These bytes were at the front of those that were read, if any were. They no longer are.
abbrev pub IsFront : (bytes before after : List ℕ) → Type 0
IsFront bytes before after =
    ((before ≡ []) × (after ≡ [])) ⊎ ((0 < length before) × (bytes ≡ take (length bytes) before) × (after ≡ drop (length bytes) before))

-- The connection took the first bytes that were read, and the others stay. Or there is no connection any more, or a new one.
abbrev pub TookUnread : {R : Type 0} → Socket R → Socket R → Type 0
TookUnread s t =
    ((part : Part) × (n : ℕ) × Takes part (take n (unread_of s)) (connection_of s) (connection_of t) × (unread_of t ≡ drop n (unread_of s)))
    ⊎ ((unread_of t ≡ []) × (((connection_of t).is_open ≡ false) ⊎ IsUntouched (connection_of t)))

-- The answer to this request comes next.
abbrev pub IsFirstOut : {R : Type 0} → List ℕ → Socket R → Type 0
IsFirstOut request s = (early : List (List ℕ)) × ((connection_of s).out ≡ request ∷ early)

-- The connection didn't go on after an answer.
abbrev pub IsFresh : {R : Type 0} → Socket R → Type 0
IsFresh s = (connection_of s).kept ≡ false

-- The requests that were out still are, or only the first of them.
abbrev pub KeepsOut : {R : Type 0} → Socket R → Socket R → Type 0
KeepsOut s t = ((connection_of t).out ≡ (connection_of s).out) ⊎ ((connection_of t).out ≡ take 1 (connection_of s).out)

-- how many bytes of the answer's head were handed on
abbrev pub handed_of : {R : Type 0} → Socket R → ℕ
handed_of s = s.handed

-- Bytes of the head that came before are handed on: the next ones.
abbrev pub HandsHead : {R : Type 0} → List ℕ → Status → Socket R → Socket R → Type 0
HandsHead bytes reached s t = (bytes ≡ take (length bytes) (drop (handed_of s) reached.head))
    × (handed_of t ≡ handed_of s + length bytes) × (connection_of t ≡ reached)

-- After the whole head, bytes are handed on that the connection takes as the next ones of the body.
abbrev pub HandsBody : {R : Type 0} → List ℕ → Status → Socket R → Socket R → Type 0
HandsBody bytes reached s t = (length reached.head ≤ handed_of s) × (handed_of t ≡ handed_of s) × Takes Body bytes reached (connection_of t)

-- The bytes are the next ones of the answer. They are of its head once that is whole or the connection is over, or of its body. Of the
-- body those come first that were read with the head (`pending`).
pub record Hands {R : Type 0} (bytes : List ℕ) (s t : Socket R) : Type 0 where
  pub reached : Status
  pub pending : List ℕ
  pub whole : reached.is_open ≡ true → IsSome reached.left
  pub stays : IsSome (connection_of s).left → (reached ≡ connection_of s) × (pending ≡ unread_of s)
  pub next : (HandsHead bytes reached s t × (unread_of t ≡ pending)) ⊎ (HandsBody bytes reached s t × IsFront bytes pending (unread_of t))

-- Nothing more of the answer is handed on: it has ended before, it is whole, or its connection is over.
pub record Ends {R : Type 0} (s t : Socket R) : Type 0 where
  pub reached : Status
  pub stays : IsSome (connection_of s).left → reached ≡ connection_of s
  pub why :
      (is_over s ≡ true) ⊎ (((reached.left ≡ Some 0) × (connection_of t ≡ after_finish reached) × (is_over t ≡ true))
      ⊎ ((connection_of t).is_open ≡ false))

-- The bytes are handed on by the socket `s`, piece after piece.
pub data HandedOn {R : Type 0} (s : Socket R) : List ℕ → Socket R → Type 0 where
  nothing : HandedOn s [] s
  more : (bytes piece : List ℕ) (t u : Socket R) → HandedOn s bytes t → Hands piece t u → HandedOn s (bytes ++ piece) u

-- a socket speaks for no book
abbrev pub Nothing : Type 0
Nothing = ⊥

-- What is true of all histories.
use Rattle.std.specs.Prelude.{◌≡◌, ⊤, ℕ, false, List, [], ◌∷◌}
use Rattle.http_range.specs.Book.{Book, HasDistinctTags}
use Rattle.http_range.specs.Honest.{IsPieceOfBook, IsReadAs}
use Rattle.client_connection.specs.Run.{IsOrderly}
use Rattle.client_connection.specs.Status.{over}
use Rattle.cog_client.specs.Client.{ClientAgrees, ClientState, name_of}
use Rattle.client_dialogue.specs.History.{AreOwn, History, IsHistory, Round, Talk, connections_of, past_of}
use Rattle.client_dialogue.specs.History.Round.{LetGo, Made, Rested, Stopped, Unasked}

-- A dialogue without a connection, with nothing under way, has the history in which nothing happened.
abbrev pub HistoriesBegin : Type 0
HistoriesBegin = (c : ClientState) (t : Talk) → t.status ≡ over [] → t.asked ≡ false
    → IsHistory c t.exchanges (record { events = []; rounds = []; last = c; request = [] }) t c

-- On each connection the answers are those to its own requests, in their order. What the client took as the answer to a request begins
-- where the answer at that request's place does. If it was taken as whole, it is that answer.
abbrev pub AnswersAreOwn : Type 0
AnswersAreOwn = (start : ClientState) (allowed : ℕ) (h : History) (t : Talk) (c : ClientState) → IsHistory start allowed h t c
    → IsOrderly (past_of h) × AreOwn h.rounds (connections_of (past_of h))

-- What came is read as pieces of files of this book under the client's name.
abbrev pub AreHonest : ClientState → Book → List Round → Type 0
AreHonest c book [] = ⊤
AreHonest c book (Made e ∷ rs) = IsReadAs (IsPieceOfBook (name_of c) book) e.text × AreHonest c book rs
AreHonest c book (Rested ∷ rs) = AreHonest c book rs
AreHonest c book (Unasked ∷ rs) = AreHonest c book rs
AreHonest c book (Stopped request text ∷ rs) = IsReadAs (IsPieceOfBook (name_of c) book) text × AreHonest c book rs
AreHonest c book (LetGo request text ∷ rs) = IsReadAs (IsPieceOfBook (name_of c) book) text × AreHonest c book rs

-- If all that came is read so, a client that agreed with the book agrees with it after the rounds. The ETags of the book are distinct.
abbrev pub HistoriesAreTrue : Type 0
HistoriesAreTrue = (start : ClientState) (allowed : ℕ) (h : History) (t : Talk) (c : ClientState) → IsHistory start allowed h t c
    → (book : Book) → HasDistinctTags book → ClientAgrees start book → AreHonest start book h.rounds → ClientAgrees h.last book

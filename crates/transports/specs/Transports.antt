-- What callers know of the transports of this crate.
use Rattle.std.specs.Prelude.{ℕ, Bool, ◌==◌, ◌⊎◌, if◌then◌else◌, List, [], ◌∷◌, drop, Some}
use Rattle.http_range.specs.Book.{Book}
use Rattle.http_range.specs.Honest.{IsFront}
use Rattle.cog_client.specs.Transport.{Coming}
use Rattle.cog_server.specs.Server.{ServerState}
use Rattle.transports.specs.declared.in_memory.InMemory.{InMemory}
use Rattle.transports.specs.declared.in_pieces.InPieces.{InPieces}
use Rattle.transports.specs.declared.replaced.Replaced.{Replaced}
use Rattle.transports.specs.declared.scripted.Fate.{Fate}
use Rattle.transports.specs.declared.scripted.Scripted.{Scripted}
use Rattle.transports.specs.InMemory.{IsAnswerAbout, StandsIn}

-- the server, and the name that is asked for
abbrev pub served_state : InMemory → ServerState
served_state s = s.server.now

abbrev pub served_name : InMemory → List ℕ
served_name s = s.name.now

-- the exchanges so far, and whether the answer to one was lost
abbrev pub exchanges_of : InMemory → ℕ
exchanges_of s = s.exchanges

abbrev pub has_lost : InMemory → Bool
has_lost s = s.has_lost

-- Of a server that is replaced: the servers before and after, and the name. Then how many exchanges are left to the first server, how many
-- were made so far, and whether the answer to one was lost.
abbrev pub states_of : Replaced → List ServerState
states_of s = s.before.now ∷ s.after.now ∷ []

abbrev pub name_of : Replaced → List ℕ
name_of s = s.name.now

abbrev pub left_of : Replaced → ℕ
left_of s = s.left

abbrev pub count_of : Replaced → ℕ
count_of s = s.exchanges

abbrev pub lost_of : Replaced → Bool
lost_of s = s.has_lost

-- the server whose turn it is
abbrev pub state_in_turn : Replaced → ServerState
state_in_turn s = if s.left == 0 then s.after.now else s.before.now

-- what each of the two servers has under the name is in the book
abbrev pub StandInBoth : Replaced → Book → Type 0
StandInBoth s book = StandsIn s.before.now.catalogue s.name.now book × StandsIn s.after.now.catalogue s.name.now book

-- the answer of either server to a request
abbrev pub AnswersOfEither : Replaced → List ℕ → List ℕ → Type 0
AnswersOfEither s request text =
    IsAnswerAbout s.before.now.catalogue s.name.now request text ⊎ IsAnswerAbout s.after.now.catalogue s.name.now request text

-- a front of what may come of the answer to a request
abbrev pub FrontsOf : Coming → List ℕ → List ℕ → Type 0
FrontsOf answers request text = (whole : List ℕ) × answers request (Some whole) × IsFront text whole

-- the transport whose answers are lost and cut
abbrev pub inner_of : {T : Type 0} → Scripted T → T
inner_of s = s.inner

-- what becomes of the next answers, in order
abbrev pub fates_of : {T : Type 0} → Scripted T → List Fate
fates_of s = s.fates.now

-- the transport whose answers come in pieces
abbrev pub source_of : {T : Type 0} → InPieces T → T
source_of s = s.inner

-- what is still to come of its last answer
abbrev pub rest_of : {T : Type 0} → InPieces T → List ℕ
rest_of s = drop s.at s.answer.items

-- What a server in memory has.
use Rattle.std.specs.Prelude.{◌≡◌, ◌⊎◌, ℕ, List, [], Option, Some, None}
use Rattle.http_range.specs.Book.{Publication, Book, Catalogue, In, IsCatalogue, publish, published, publication_tag}
use Rattle.http_range.specs.Response.{Response, IsAnswer, text_of}
use Rattle.cog_server.specs.Server.{ServerState}

-- The catalogue keeps the limits, and has this publication under the name.
pub record Has (catalogue : Catalogue) (name : List ℕ) (p : Publication) : Type 0 where
  pub lawful : IsCatalogue catalogue
  pub named : p.name ≡ name
  pub there : published name catalogue ≡ Some p

-- what the catalogue has under the name is in the book
abbrev pub StandsIn : Catalogue → List ℕ → Book → Type 0
StandsIn catalogue name book = (p : Publication) × Has catalogue name p × In p book

-- the first publication of an epoch
abbrev pub first_of : ℕ → List ℕ → List ℕ → Publication
first_of epoch name file = record { name = name; tag = publication_tag epoch 1; file = file }

-- a server whose first publication of the epoch is its only one
abbrev pub server_of_one : ℕ → List ℕ → List ℕ → ServerState
server_of_one epoch name file =
    record { epoch = epoch; count = 1; catalogue = publish (first_of epoch name file) [] }

-- an answer has the ETag of the file of this name, or no ETag
abbrev pub IsAbout : List ℕ → Option (List ℕ) → Type 0
IsAbout name carried = (carried ≡ Some name) ⊎ (carried ≡ None)

-- The text is that of the server's answer to the message. Its ETag, if it has one, is that of the file of this name.
pub record IsAnswerAbout (catalogue : Catalogue) (name message text : List ℕ) : Type 0 where
  pub response : Response
  pub answers : IsAnswer catalogue message response
  pub about : IsAbout name response.name
  pub shown : text ≡ text_of response

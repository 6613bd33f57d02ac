-- Files of the disk that are read as if a server had them.
use Rattle.std.specs.Prelude.{◌≡◌, ◌+◌, ℕ, List, Option, Some, take}
use Rattle.http_range.specs.declared.publication.TheConstants.{FILE_LIMIT}
use Rattle.cog_server.specs.Server.{ServerState}
use Rattle.transports.specs.InMemory.{server_of_one}

-- The server has one file: what a file gave that was opened, up to one byte more than a file may have. This is said if it is known which
-- bytes that file gives.
abbrev pub IsServerOfFile : {F : Type 0} (gives : F → Option (List ℕ)) (epoch : ℕ) (name : List ℕ) → ServerState → Type 0
IsServerOfFile {F} gives epoch name server =
    (file : F) × ((whole : List ℕ) → gives file ≡ Some whole → server ≡ server_of_one epoch name (take (FILE_LIMIT + 1) whole))

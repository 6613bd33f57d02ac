-- Limits that the definitions of a server name.
use Rattle.std.specs.Prelude.{◌≡◌, ◌≤◌, ◌+◌, ℕ, List, length, IfSome}
use Rattle.http_fields.specs.declared.limits.TheConstants.{NAME_LIMIT, HOST_LIMIT}
use Rattle.http_range.specs.declared.publication.TheConstants.{FILE_LIMIT, NAMES_LIMIT}
use Rattle.http_range.specs.Book.{IsCatalogue}
use Rattle.cog_server.specs.declared.limits.TheConstants.{DROP_LIMIT, HEAD_ROOM, ORIGIN_LIMIT}
use Rattle.cog_server.specs.Additions.{IsSent, Sent, ServiceState}

-- In numbers: the bytes of a file's name, of a host's name and of a file. Then the names of a server, and the bytes that are dropped after
-- a last message.
pub record ServerLimitsAre : Type 0 where
  pub name : NAME_LIMIT ≡ 200
  pub host : HOST_LIMIT ≡ 64
  pub file : FILE_LIMIT ≡ 67_108_864
  pub names : NAMES_LIMIT ≡ 64
  pub dropped : DROP_LIMIT ≡ 65_536

-- Let an origin have at most the bytes that are allowed. Then what is sent fits into the room for a head and the bytes of the body.
abbrev pub HeadsHaveRoom : Type 0
HeadsHaveRoom =
    (service : ServiceState) (n : ℕ) (message : List ℕ) (sent : Sent) → IsCatalogue service.catalogue
    → IfSome service.added.origin (λ origin. length origin ≤ ORIGIN_LIMIT) → IsSent service n message sent
    → length sent.text ≤ HEAD_ROOM + length sent.response.body

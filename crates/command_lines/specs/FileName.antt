-- The name of a file that is published without one of its own.
use Rattle.std.specs.Prelude.{ℕ, if◌then◌else◌, List, [], map, unwrap_or}
use Rattle.std.specs.Path.{path_file_name}
use Rattle.http_fields.specs.Names.{is_name_byte}

-- the byte, or `_` if no name may have it
abbrev pub name_byte : ℕ → ℕ
name_byte b = if is_name_byte b then b else 95

-- the last part of the path, byte by byte; nothing if it has none, as for `..`
abbrev pub name_of_path : List ℕ → List ℕ
name_of_path path = map name_byte (unwrap_or (path_file_name path) [])

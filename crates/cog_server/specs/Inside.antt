-- How the code keeps what a server has.
use Rattle.std.specs.Prelude.{map}
use Rattle.cog_server.specs.declared.server.Server.TheInside.{Inside}
use Rattle.cog_server.specs.Catalogue.{publication}
use Rattle.cog_server.specs.Server.{ServerState}

abbrev pub state_of : Inside → ServerState
state_of s = record { epoch = s.epoch; count = s.count; catalogue = map publication s.files.items }

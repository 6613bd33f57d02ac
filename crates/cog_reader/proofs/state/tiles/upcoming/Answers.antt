use Rattle.cog_reader.proofs.UpcomingLemmas.{later_group}
use Rattle.cog_reader.proofs.state.tiles.upcoming.Goals as goal

pub returns : goal.returns
returns c file_length w k both = later_group file_length w k c.args.builder.now c.args.index c.upcoming.result both c.upcoming.ensures

use Rattle.cog_reader.proofs.UpcomingLemmas.{next_group}
use Rattle.cog_reader.proofs.state.tiles.wanted.Goals as goal

pub returns : goal.returns
returns c file_length w k both = next_group file_length w k c.args.builder.now c.need.result both c.need.ensures

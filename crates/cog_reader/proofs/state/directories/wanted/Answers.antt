use Rattle.cog_reader.proofs.UpcomingLemmas.{next_directories, past_directories}
use Rattle.cog_reader.proofs.state.directories.wanted.Goals as goal

pub returns-in-Ok : goal.returns-in-Ok
returns-in-Ok c k = next_directories c.args.file.now.file_length c.args.file.now.walk.now k c.in-Ok.span c.in-Ok.ensures.wanted c.in-Ok.ensures.first

pub returns-in-Err : goal.returns-in-Err
returns-in-Err c k = past_directories c.args.file.now.file_length c.args.file.now.walk.now k c.in-Err.ensures.past.1

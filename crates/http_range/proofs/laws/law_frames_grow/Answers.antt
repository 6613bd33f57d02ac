use Rattle.http_range.proofs.FrameLemmas.{law_frames_grow}
use Rattle.http_range.proofs.laws.law_frames_grow.Goals as goal

pub returns : goal.returns
returns c = law_frames_grow

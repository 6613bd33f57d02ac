use Rattle.tiff_dir.proofs.PacketLemmas.{same_packet, packs_once}
use Rattle.tiff_dir.proofs.laws.law_one_text.Goals as goal

pub returns : goal.returns
returns c = record { packet = same_packet; text = packs_once }

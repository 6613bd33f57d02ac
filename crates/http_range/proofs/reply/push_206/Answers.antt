use Rattle.std.proofs.Common.{append_assoc, append-nil}
use Rattle.http_range.proofs.reply.push_206.Goals as goal

pub returns : goal.returns
returns c = rw (c.in_ok-push_number_line.ensures, c.part_size.ensures, c.in_ok-push_content_range.ensures, c.in_ok-push_file.ensures) (simp (append_assoc, append-nil))

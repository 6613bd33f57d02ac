-- The text of a log (docs/SCRIPTS.md, "Logs"): which lines it has, and which words these have.
use Rattle.std.specs.Prelude.{ℕ, List, [], ◌∷◌, ◌++◌, length, codes, decimal, Option, Some, None}
use Rattle.std.specs.List.{flat_map, join_by}
use Rattle.hex.specs.Hex.{encode_lower}
use Rattle.extents.specs.declared.span.Span.{Span}
use Rattle.tiff_dir.specs.FaultNumber.{number_of_fault, tag_of_fault}
use Rattle.http_range.specs.declared.reading.Why.TheVariants.{Status}
use Rattle.cog_reader.specs.declared.outcome.Outcome.{Outcome}
use Rattle.cog_reader.specs.declared.outcome.Outcome.TheVariants.{Window, Info, Fault}
use Rattle.cog_server.specs.declared.server.Answer.{Answer}
use Rattle.cog_server.specs.Server.{number_of_refusal}
use Rattle.cog_client.specs.declared.delivered.Delivered as delivery
use Rattle.cog_client.specs.declared.delivered.Delivered.TheVariants.{Took, Restarted, Ignored}
use Rattle.cog_client.specs.declared.delivered.Ignored as why
use Rattle.cog_client.specs.declared.delivered.Ignored.TheVariants.{NotUsed}
use Rattle.cog_client.specs.declared.delivered.Current.{Current}
use Rattle.cog_client.specs.declared.delivered.Current.TheVariants.{Same, Other, Unknown}
use Rattle.cog_client.specs.declared.report.Report.{Report}
use Rattle.cog_client.specs.Take.{number_of_ignored}
use Rattle.cog_client.specs.Check.{number_of_unknown}
use Rattle.world.specs.declared.event.AnsweredRequest.{AnsweredRequest}
use Rattle.world.specs.declared.event.Effect.{Effect}
use Rattle.world.specs.declared.event.Effect.TheVariants.{Skipped, Published, Refused, Epoch, Made, Opened, Forgot, Answered, Nothing, Asked, Delivered, Exchanged, Unchecked, Checked}
use Rattle.world.specs.declared.event.Entry.{Entry}

-- the words of a line, or some of them
abbrev pub Words : Type 0
Words = List (List ℕ)

-- words with one space between each two
abbrev pub spaced : Words → List ℕ
spaced words = join_by (λ word. word) (codes " ") words

-- a line: its words, and LF
abbrev pub line : Words → List ℕ
line words = spaced words ++ codes "\n"

-- ---- parts of lines; numbers are in decimal

-- a number that may be there
abbrev pub number_if : Option ℕ → Words
number_if None = []
number_if (Some n) = decimal n ∷ []

-- F-L
abbrev pub span_word : Span → List ℕ
span_word span = decimal span.first ++ codes "-" ++ decimal span.last

-- the ETag of If-Range, or `-` without one
abbrev pub tag_word : Option (List ℕ) → List ℕ
tag_word None = codes "-"
tag_word (Some tag) = tag

-- answer A STATUS BODY
abbrev pub answer_words : ℕ → Answer → Words
answer_words number answer = codes "answer" ∷ decimal number ∷ decimal answer.status ∷ decimal answer.body ∷ []

-- asked I F-L TAG answer A STATUS BODY
abbrev pub asked_words : AnsweredRequest → Words
asked_words asked =
    codes "asked" ∷ decimal asked.client ∷ span_word asked.span ∷ tag_word asked.tag ∷ answer_words asked.number asked.answer

-- the status code for which an answer is ignored
abbrev pub status_of : why.Ignored → Option ℕ
status_of (NotUsed (Status status)) = Some status
status_of ignored = None

-- D: took N, restarted, ignored K, or ignored 3 STATUS
abbrev pub delivered_words : delivery.Delivered → Words
delivered_words (Took blocks) = codes "took" ∷ decimal blocks ∷ []
delivered_words Restarted = codes "restarted" ∷ []
delivered_words (Ignored ignored) = codes "ignored" ∷ decimal (number_of_ignored ignored) ∷ number_if (status_of ignored)

-- same, other, or unknown K
abbrev pub current_words : Current → Words
current_words Same = codes "same" ∷ []
current_words Other = codes "other" ∷ []
current_words (Unknown unknown) = codes "unknown" ∷ decimal (number_of_unknown unknown) ∷ []

-- ---- lines

-- the line of an event, by what it did
abbrev pub effect_words : Effect → Words
effect_words Skipped = codes "skipped" ∷ []
effect_words (Published tag) = codes "published" ∷ tag ∷ []
effect_words (Refused refusal) = codes "refused" ∷ decimal (number_of_refusal refusal) ∷ []
effect_words (Epoch epoch) = codes "epoch" ∷ decimal epoch ∷ []
effect_words (Made i) = codes "client" ∷ decimal i ∷ []
effect_words (Opened i) = codes "opened" ∷ decimal i ∷ []
effect_words (Forgot i) = codes "forgot" ∷ decimal i ∷ []
effect_words (Answered number answer) = answer_words number answer
effect_words (Nothing i) = codes "asked" ∷ decimal i ∷ codes "nothing" ∷ []
effect_words (Asked asked) = asked_words asked
effect_words (Delivered i delivered) = codes "delivered" ∷ decimal i ∷ delivered_words delivered
effect_words (Exchanged asked delivered) = asked_words asked ++ delivered_words delivered
effect_words (Unchecked i) = codes "checked" ∷ decimal i ∷ codes "nothing" ∷ []
effect_words (Checked check) =
    codes "checked" ∷ decimal check.client ∷ check.tag ∷ answer_words check.number check.answer ++ current_words check.current

-- window W H S HEX, info LEVELS KEYS, or fault K with the field's tag
abbrev pub outcome_words : Outcome → Words
outcome_words (Window window) =
    codes "window" ∷ decimal window.w ∷ decimal window.h ∷ decimal window.samples ∷ encode_lower window.pixels.items ∷ []
outcome_words (Info info) = codes "info" ∷ decimal (length info.sides.items) ∷ decimal (length info.geo.keys.items) ∷ []
outcome_words (Fault fault) = codes "fault" ∷ decimal (number_of_fault fault) ∷ number_if (tag_of_fault fault)

-- the line of a report of client `i`
abbrev pub report_words : ℕ → Report → Words
report_words i report = codes "report" ∷ decimal i ∷ report.tag ∷ outcome_words report.outcome

-- ---- the text

-- the client of an event after which there may be a new report
abbrev pub client_of : Effect → Option ℕ
client_of (Opened i) = Some i
client_of (Forgot i) = Some i
client_of (Nothing i) = Some i
client_of (Delivered i delivered) = Some i
client_of (Exchanged asked delivered) = Some asked.client
client_of effect = None

-- the second line of an entry, if it has a report
abbrev pub report_lines : Option ℕ → Option Report → List Words
report_lines (Some i) (Some report) = report_words i report ∷ []
report_lines client report = []

-- the lines of an entry
abbrev pub entry_lines : Entry → List Words
entry_lines entry = effect_words entry.effect ∷ report_lines (client_of entry.effect) entry.report

-- the text of a log: the lines of its entries, in order
abbrev pub text_of_log : List Entry → List ℕ
text_of_log entries = flat_map line (flat_map entry_lines entries)

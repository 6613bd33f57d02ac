-- What is returned of a report, in numbers and in the caller's room.
use Rattle.std.specs.Prelude.{◌≡◌, ◌⊎◌, ℕ, ℤ, pos, List, Option, Some, None}
use Rattle.std.specs.Option.{option_map_or}
use Rattle.tiff_dir.specs.FaultNumber.{number_of_fault, tag_of_fault}
use Rattle.cog_reader.specs.declared.outcome.Outcome.{Outcome}
use Rattle.cog_reader.specs.declared.outcome.Outcome.TheVariants.{Window, Info, Fault}
use Rattle.cog_client.specs.declared.report.Report.{Report}
use Rattle.cog_client.specs.Client.{ClientState, report_of}
use Rattle.cog_client.specs.Keeps.{Stands}
use Rattle.text_report.specs.InfoText.{IsOfTag}
use Rattle.delgunsai_c.specs.declared.failure.Failure.TheVariants.{Memory, NoReport, OtherReport}
use Rattle.delgunsai_c.specs.declared.reports.Told.{Told}
use Rattle.delgunsai_c.specs.Failure.{code_of}
use Rattle.delgunsai_c.specs.Laid.{Lays}

-- ---- the numbers

abbrev pub kind_told : ℕ → Told
kind_told kind = record { kind = kind; width = 0; height = 0; samples = 0; bits = 0; fault = 0; field = 0 }

abbrev pub told_of : Outcome → Told
told_of (Window v) =
    record { kind = 1; width = v.w; height = v.h; samples = v.samples; bits = v.bits; fault = 0; field = 0 }
told_of (Info i) = kind_told 2
told_of (Fault fault) =
    record { kind = 3; width = 0; height = 0; samples = 0; bits = 0; fault = number_of_fault fault; field = option_map_or (λ t. t) (tag_of_fault fault) 0 }

-- ---- each call, by the client's report

-- The room stays as it was, and `number` is returned.
abbrev pub Leaves : List ℕ → List ℕ → ℤ → ℤ → Type 0
Leaves room left told number = (left ≡ room) × (told ≡ number)

abbrev pub TellsReportOf : Option Report → Told → Told → List ℕ → List ℕ → ℤ → Type 0
TellsReportOf None out left tag new told = (left ≡ out) × Leaves tag new told (pos 0)
TellsReportOf (Some r) out left tag new told = (left ≡ told_of r.outcome) × Lays r.tag tag new told

-- The numbers of the report and the ETag of its file, or 0 if there is none. The report is true for each book that the client agrees with.
abbrev pub TellsReport : ClientState → Told → Told → List ℕ → List ℕ → ℤ → Type 0
TellsReport c out left tag new told = Stands c (report_of c) × TellsReportOf (report_of c) out left tag new told

abbrev pub TellsPixelsOf : Outcome → List ℕ → List ℕ → ℤ → Type 0
TellsPixelsOf (Window v) room left told = Lays v.pixels.items room left told
TellsPixelsOf (Info i) room left told = Leaves room left told (code_of OtherReport)
TellsPixelsOf (Fault fault) room left told = Leaves room left told (code_of OtherReport)

abbrev pub TellsPixelsBy : Option Report → List ℕ → List ℕ → ℤ → Type 0
TellsPixelsBy None room left told = Leaves room left told (code_of NoReport)
TellsPixelsBy (Some r) room left told = TellsPixelsOf r.outcome room left told

-- The samples of the window in the report, which is true.
abbrev pub TellsPixels : ClientState → List ℕ → List ℕ → ℤ → Type 0
TellsPixels c room left told = Stands c (report_of c) × TellsPixelsBy (report_of c) room left told

-- a text that begins with the line of the ETag, if there was memory for it
abbrev pub TellsText : (tag : List ℕ) → List ℕ → List ℕ → ℤ → Type 0
TellsText tag room left told =
    ((text : List ℕ) × IsOfTag tag text × Lays text room left told) ⊎ Leaves room left told (code_of Memory)

abbrev pub TellsInfoOf : (tag : List ℕ) → Outcome → List ℕ → List ℕ → ℤ → Type 0
TellsInfoOf tag (Window v) room left told = Leaves room left told (code_of OtherReport)
TellsInfoOf tag (Info i) room left told = TellsText tag room left told
TellsInfoOf tag (Fault fault) room left told = Leaves room left told (code_of OtherReport)

abbrev pub TellsInfoBy : Option Report → List ℕ → List ℕ → ℤ → Type 0
TellsInfoBy None room left told = Leaves room left told (code_of NoReport)
TellsInfoBy (Some r) room left told = TellsInfoOf r.tag r.outcome room left told

-- The text of the Info in the report, which is true.
abbrev pub TellsInfo : ClientState → List ℕ → List ℕ → ℤ → Type 0
TellsInfo c room left told = Stands c (report_of c) × TellsInfoBy (report_of c) room left told

-- The numbers of faults.
use Rattle.std.specs.Prelude.{ℕ, Option, Some, None}
use Rattle.tiff_dir.specs.declared.fault.FileFault.{FileFault}
use Rattle.tiff_dir.specs.declared.fault.FileFault.TheVariants.{Header, PastEnd, DirPlace, DirCount, TagOrder, TooManyDirs, Missing, FieldType, Unsupported, LevelShape, TileArray, TileSize, Packet, Outside, TooLarge, KeyHead, KeyOrder, KeyPlace}

abbrev pub number_of_fault : FileFault → ℕ
number_of_fault Header = 1
number_of_fault PastEnd = 2
number_of_fault DirPlace = 3
number_of_fault DirCount = 4
number_of_fault TagOrder = 5
number_of_fault TooManyDirs = 6
number_of_fault (Missing tag) = 7
number_of_fault (FieldType tag) = 8
number_of_fault (Unsupported tag) = 9
number_of_fault LevelShape = 10
number_of_fault TileArray = 11
number_of_fault TileSize = 12
number_of_fault Packet = 13
number_of_fault Outside = 14
number_of_fault TooLarge = 15
number_of_fault KeyHead = 16
number_of_fault KeyOrder = 17
number_of_fault KeyPlace = 18

-- the tag of the field that a fault is about, if it is about one
abbrev pub tag_of_fault : FileFault → Option ℕ
tag_of_fault (Missing tag) = Some tag
tag_of_fault (FieldType tag) = Some tag
tag_of_fault (Unsupported tag) = Some tag
tag_of_fault fault = None

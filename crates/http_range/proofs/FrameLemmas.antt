-- Where an answer ends, as its head says, stays when bytes follow.
use Rattle.std.proofs.Common.{◌≡◌, ◌≢◌, ℕ, ◌+◌, ◌<◌, ◌≤◌, inl, inr, List, [], ◌++◌, length, take, drop, refl, sym, ap, ◌∙◌, subst, arith, append-nil, length-append, length-take, Option, Some, Result, Ok, Err}
use Rattle.std.proofs.lemmas.Bool.{cases_lt}
use Rattle.std.proofs.lemmas.List.{take_all, take-append-drop, take-append-le}
use Rattle.httparse.specs.Grammar.{ResponseHead, ReadsResponse, print_response}
use Rattle.http_range.specs.declared.reading.Why.{Why}
use Rattle.http_range.specs.declared.reading.Why.TheVariants.{Cut}
use Rattle.http_range.specs.declared.frame.Frame.{Frame}
use Rattle.http_range.specs.Head.{SeenHead, IsHeadOf, seen_head, FindsHead}
use Rattle.http_range.specs.Piece.{◌>>=◌}
use Rattle.http_range.specs.Announced.{Announced}
use Rattle.http_range.specs.Reading.{announced_of, ReadsHead}
use Rattle.http_range.specs.Frame.{frame_of, length_announced, ReadsFrame}
use Rattle.http_range.specs.Laws.{FramesGrow}
use Rattle.http_range.proofs.FrontLemmas.{found_whole}
use Rattle.http_range.proofs.GrowLemmas.{found_grows, found_decided, printed_some, whole_of, size_of}

-- what is read of what was found
abbrev framed : Result SeenHead Why → Result Frame Why
framed found = found >>= (λ head. Ok (frame_of head))

-- a head was found whole, and says this
record IsFramed (bytes : List ℕ) (frame : Frame) : Type 0 where
  response : ResponseHead
  is : IsHeadOf bytes response
  says : frame_of (seen_head response) ≡ frame

framed_by : (bytes : List ℕ) (frame : Frame) (found : Result SeenHead Why) → FindsHead bytes found → Ok frame ≡ framed found
    → IsFramed bytes frame
framed_by bytes frame (Ok seen) finds says =
    let same : frame_of seen ≡ frame = cc in
    record { response = finds.0; is = finds.1; says = ap frame_of (sym finds.2) ∙ same }
framed_by bytes frame (Err why) finds says = absurd (cc)

framed_of : (bytes : List ℕ) (frame : Frame) → ReadsFrame bytes (Ok frame) → IsFramed bytes frame
framed_of bytes frame reads = framed_by bytes frame reads.0 reads.1 reads.2

-- a head that stands there is read
reads_by : (bytes : List ℕ) (frame : Frame) (h : ResponseHead) → IsHeadOf bytes h → frame_of (seen_head h) ≡ frame
    → ReadsFrame bytes (Ok frame)
reads_by bytes frame h is says = (Ok (seen_head h), (h, is, refl), ap Ok (sym says))

not_cut : (found : Result SeenHead Why) → found ≢ Err Cut → framed found ≢ Err Cut
not_cut (Ok seen) other = λ e. absurd (cc)
not_cut (Err why) other = λ e. let same : why ≡ Cut = cc in other (ap Err same)

stays : (front more : List ℕ) (r : Result Frame Why) → r ≢ Err Cut → ReadsFrame front r → ReadsFrame (front ++ more) r
stays front more r other reads =
    let whole : reads.0 ≢ Err Cut = λ e. other (reads.2 ∙ ap framed e) in
    (reads.0, found_grows front more reads.0 whole reads.1, reads.2)

decided : (bytes : List ℕ) (r : Result Frame Why) → 4096 ≤ length bytes → ReadsFrame bytes r → r ≢ Err Cut
decided bytes r long reads = λ e. not_cut reads.0 (found_decided bytes reads.0 long reads.1) (sym reads.2 ∙ e)

one : (bytes : List ℕ) (frame : Frame) (r : Result Frame Why) → ReadsFrame bytes (Ok frame) → ReadsFrame bytes r → r ≡ Ok frame
one bytes frame r first reads =
    let is = framed_of bytes frame first in
    reads.2 ∙ ap framed (found_whole bytes is.response reads.0 is.is reads.1) ∙ ap Ok is.says

-- the head's bytes, which the frame counts
size_is : (bytes : List ℕ) (frame : Frame) → (is : IsFramed bytes frame) → frame.size ≡ length (print_response is.response)
size_is bytes frame is = ap (λ (f : Frame). f.size) (sym is.says)

long_is : (bytes : List ℕ) (frame : Frame) → (is : IsFramed bytes frame)
    → length (take 4096 bytes) ≡ frame.size + length is.is.rest
long_is bytes frame is =
    ap length is.is.reads.1 ∙ length-append (print_response is.response) is.is.rest
    ∙ ap (λ (n : ℕ). n + length is.is.rest) (sym (size_is bytes frame is))

some : (bytes : List ℕ) (frame : Frame) → ReadsFrame bytes (Ok frame) → 0 < frame.size
some bytes frame reads =
    let is = framed_of bytes frame reads in
    let some_printed = printed_some is.response in
    let size = size_is bytes frame is in
    elim (cases_lt 0 frame.size) [
      | inl above ↦ above
      | inr none ↦ (let nothing : length (print_response is.response) ≡ 0 = omega (arith, size, none) in absurd (some_printed nothing))
    ]

there : (bytes : List ℕ) (frame : Frame) → ReadsFrame bytes (Ok frame) → frame.size ≤ length bytes
there bytes frame reads = omega (arith, long_is bytes frame (framed_of bytes frame reads), length-take 4096 bytes)

short : (bytes : List ℕ) (frame : Frame) → ReadsFrame bytes (Ok frame) → frame.size ≤ 4096
short bytes frame reads = omega (arith, long_is bytes frame (framed_of bytes frame reads), length-take 4096 bytes)

-- the head's bytes stand at the front
front_is : (bytes : List ℕ) (frame : Frame) → (is : IsFramed bytes frame) → frame.size ≤ 4096
    → take 4096 (take frame.size bytes) ≡ print_response is.response ++ []
front_is bytes frame is small =
    let print = print_response is.response in
    let size = size_is bytes frame is in
    let n = frame.size in
    let within : length (take n bytes) ≤ 4096 = omega (arith, length-take n bytes, small) in
    let parts : take 4096 bytes ++ drop 4096 bytes ≡ bytes = take-append-drop 4096 bytes in
    let enough : n ≤ length (take 4096 bytes) = omega (arith, long_is bytes frame is) in
    let begins : n ≤ length print = omega (arith, size) in
    take_all 4096 (take n bytes) within
    ∙ ap (take n) (sym parts) ∙ take-append-le n (take 4096 bytes) (drop 4096 bytes) enough
    ∙ ap (take n) is.is.reads.1 ∙ take-append-le n print is.is.rest begins
    ∙ take_all n print (omega (arith, size)) ∙ sym (append-nil print)

own : (bytes : List ℕ) (frame : Frame) → ReadsFrame bytes (Ok frame) → ReadsFrame (take frame.size bytes) (Ok frame)
own bytes frame reads =
    let is = framed_of bytes frame reads in
    reads_by (take frame.size bytes) frame is.response
    (record { rest = []; reads = (is.is.reads.0, front_is bytes frame is (short bytes frame reads)); room = is.is.room }) is.says

behind : (front more : List ℕ) (frame : Frame) → ((f : Frame) → ¬ (ReadsFrame front (Ok f))) → ReadsFrame (front ++ more) (Ok frame)
    → length front < frame.size
behind front more frame none reads = elim (cases_lt (length front) frame.size) [
  | inl above ↦ above
  | inr within ↦
      let n = frame.size in
      let begins : ReadsFrame (take n front) (Ok frame) =
      subst (λ (t : List ℕ). ReadsFrame t (Ok frame)) (take-append-le n front more within) (own (front ++ more) frame reads) in
      let not_cut : Ok frame ≢ Err Cut = λ e. absurd (cc) in
      absurd (none frame (subst (λ (t : List ℕ). ReadsFrame t (Ok frame)) (take-append-drop n front)
      (stays (take n front) (drop n front) (Ok frame) not_cut begins)))
]

announced : (bytes : List ℕ) (head : Announced) (frame : Frame) → ReadsHead bytes (Ok head) → ReadsFrame bytes (Ok frame)
    → (frame.length ≡ Some head.length) × (frame.size ≡ head.size)
announced bytes head frame says reads =
    let whole = whole_of bytes head says in
    let mine = reads_by bytes (frame_of (seen_head whole.response)) whole.response whole.is refl in
    let same : frame ≡ frame_of (seen_head whole.response) =
    (let e = one bytes frame (Ok (frame_of (seen_head whole.response))) reads mine in cc) in (
      ap (λ (f : Frame). f.length) same ∙ ap length_announced whole.told,
      ap (λ (f : Frame). f.size) same ∙ sym (size_of bytes head whole),
    )

pub law_frames_grow : FramesGrow
law_frames_grow = record {
  stays = stays;
  decided = decided;
  one = one;
  some = some;
  there = there;
  short = short;
  own = own;
  behind = behind;
  announced = announced;
}

-- What httparse says of the first bytes, as the words of this crate.
use Rattle.std.proofs.Common.{◌≡◌, ℕ, ◌<◌, ◌≤◌, List, length, take, drop, ap, ◌∙◌, subst, arith, length-take, Err}
use Rattle.std.proofs.lemmas.List.{length-map}
use Rattle.httparse.specs.declared.spans.HeaderSpan.{HeaderSpan}
use Rattle.httparse.specs.declared.spans.ResponseSpans.{ResponseSpans}
use Rattle.httparse.specs.declared.spans.RequestSpans.{RequestSpans}
use Rattle.httparse.specs.Grammar.{Field, RequestHead, ResponseHead, HasNoResponse, MayBecomeResponse}
use Rattle.httparse.specs.Spans.{header_bytes, name_and_value, span_bytes, IsResponseOf, IsRequestOf, AreFieldsAt}
use Rattle.http_fields.specs.Text.{FieldLine}
use Rattle.http_fields.specs.Fields.{fields_at}
use Rattle.http_range.specs.Seen.{SeenRequest, IsRequestFront, seen_request}
use Rattle.http_range.specs.declared.reading.Why.TheVariants.{Cut}
use Rattle.http_range.specs.Head.{SeenHead, IsHeadOf, seen_head, FindsHead}

room_of : (front : List ℕ) (spans : List HeaderSpan) (n : ℕ) (fields : List Field) → length spans ≡ 32
    → AreFieldsAt front spans n fields → length fields ≤ 32
room_of front spans n fields long same =
    omega (arith, ap length same, length-map (take n spans) (header_bytes front), length-map fields name_and_value, length-take n spans)

pub head_found : (bytes front : List ℕ) (spans : List HeaderSpan) (r : ResponseSpans) (fields : List FieldLine)
    → fields ≡ fields_at front (take r.headers spans) → front ≡ take 4096 bytes
    → length spans ≡ 32 → IsResponseOf front spans r
    → (h : ResponseHead) × IsHeadOf bytes h
    × (◌≡◌ {A = SeenHead} (record { status = r.code; minor = r.version; fields = fields; size = r.len }) (seen_head h))
head_found bytes front spans r fields same is long of =
    let at = of.1 in (
      of.0,
      record { rest = drop r.len front; reads = rw (← is) at.reads; room = room_of front spans r.headers of.0.fields long at.fields },
      λ i. record { status = at.code i; minor = at.version i; fields = (same ∙ at.fields) i; size = at.len i },
    )

pub head_cut : (bytes front : List ℕ) → front ≡ take 4096 bytes → take 4096 bytes ≡ bytes → length bytes < 4096
    → HasNoResponse front → MayBecomeResponse front → FindsHead bytes (Err Cut)
head_cut bytes front is all short none open_head =
    let same : front ≡ bytes = is ∙ all in
    (short, subst HasNoResponse same none, subst MayBecomeResponse same open_head)

pub request_found : (bytes front method target : List ℕ) (spans : List HeaderSpan) (r : RequestSpans) (fields : List FieldLine)
    → fields ≡ fields_at front (take r.headers spans) → front ≡ take 8192 bytes
    → method ≡ span_bytes front r.method → target ≡ span_bytes front r.path → length spans ≡ 32 → IsRequestOf front spans r
    → (h : RequestHead) × IsRequestFront bytes h
    × (◌≡◌ {A = SeenRequest} (record { method = method; target = target; minor = r.version; fields = fields }) (seen_request h))
request_found bytes front method target spans r fields same is m t long of =
    let at = of.1 in (
      of.0,
      record { rest = drop r.len front; reads = rw (← is) at.reads; room = room_of front spans r.headers of.0.fields long at.fields },
      λ i. record { method = (m ∙ at.method) i; target = (t ∙ at.path) i; minor = at.version i; fields = (same ∙ at.fields) i },
    )

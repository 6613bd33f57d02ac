-- The worked rows, by computing.
use Rattle.std.proofs.Common.{◌≡◌, ℕ, zero, suc, ◌≤◌, inl, inr, Bool, true, false, not, ◌&&◌, List, [], ◌∷◌, ◌++◌, length, take, Some, refl, ap, ◌∙◌, arith, codes, sym}
use Rattle.std.proofs.lemmas.Bool.{cases_lt}
use Rattle.std.specs.Fmt.{digits}
use Rattle.std.specs.Prelude.{All}
use Rattle.std.specs.List.{list_all}
use Rattle.std.proofs.lemmas.Bool.{ltb-true}
use Rattle.std.proofs.lemmas.List.Elements.{All-nil, All-cons}
use Rattle.std.proofs.lemmas.List.Sums.{AllPass-from_list_all}
use Rattle.std.proofs.lemmas.Str.{IsUtf8-from_ascii}
use Rattle.std.proofs.lemmas.Str.Ascii.{IsAscii-cons, IsAscii-nil}
use Rattle.httparse.specs.Grammar.{trim_ows, is_token, is_token_byte, is_uri_byte, is_value_byte, crlf, Field, IsField, RequestHead, IsRequestHead, print_request}
use Rattle.http_fields.specs.declared.limits.TheConstants.{FIELD_LIMIT, MESSAGE_LIMIT}
use Rattle.http_range.specs.Response.{IsAnswer}
use Rattle.http_range.specs.Seen.{HasRequest, seen_request}
use Rattle.http_range.specs.Text.{line}
use Rattle.http_range.specs.Members.{members}
use Rattle.http_range.specs.Range.{range_spec}
use Rattle.http_range.specs.Reply.{content_range}
use Rattle.http_range.specs.ContentRange.{range_of}
use Rattle.http_range.specs.Digits.{number_64}
use Rattle.http_range.specs.Ask.{range_value}
use Rattle.http_range.specs.Book.{publication_tag}
use Rattle.http_range.specs.Laws.{MessagesAreTested}
use Rattle.http_range.specs.Scan.{is_message}
use Rattle.http_range.specs.Stream.{HasNoMessage, IsFirstMessage}
use Rattle.http_range.specs.Stream.AreAnswers.{unfinished, closed, more}
use Rattle.http_range_tests.specs.Rows.{AreParts, part_rows, TextRows, HeadRows, MessageRows, get_a, StreamRows, shelf, whole_file, get_and_close, whole_and_close, AreCases, case_rows, condition_rows}

pub parts_are : AreParts part_rows
unfolding range_spec
parts_are =
    (refl, (refl, (refl, (refl, (refl, (refl, (refl, (refl, (refl, (refl, (refl, (refl, (refl, (refl, (refl, (refl, (refl, (refl, (refl, (refl, (refl, (refl, (refl, (refl, (refl, (refl, tt))))))))))))))))))))))))))

pub texts_are : TextRows
unfolding digits line range_value content_range publication_tag
texts_are = record {
  tag = refl;
  first_request = refl;
  first_length = refl;
  second_request = refl;
  second_length = refl;
  head = refl;
  head_length = refl;
  whole = refl;
  bad = refl;
  unknown = refl;
  method = refl;
  failed = refl;
  not_modified = refl;
  not_modified_length = refl;
  unsatisfiable = refl;
}

pub heads_are : HeadRows
unfolding digits line content_range range_of number_64
heads_are = record {
  part = refl;
  no_range = refl;
  no_length = refl;
  whole = refl;
  status = refl;
  none = refl;
  some = refl;
  all = refl;
  cut = refl;
  there = refl;
}

both : (a b : Bool) → (a && b) ≡ true → (a ≡ true) × (b ≡ true)
both true b is = (refl, is)
both false b is = absurd (let wrong : false ≡ true = is in cc)

not_true : (b : Bool) → not b ≡ true → b ≡ false
not_true true is = absurd (let wrong : false ≡ true = is in cc)
not_true false is = refl

-- no front of at most k bytes is a message, computed
abbrev none_up_to : List ℕ → ℕ → Bool
none_up_to stream zero = not (is_message (take 0 stream))
none_up_to stream (suc k) = none_up_to stream k && not (is_message (take (suc k) stream))

by_computing : MessagesAreTested → (stream : List ℕ) (k : ℕ) → none_up_to stream k ≡ true → HasNoMessage stream k
by_computing law stream zero is n le found =
    let e : n ≡ 0 = omega arith in
    let no_message : is_message (take n stream) ≡ false = ap (λ (m : ℕ). is_message (take m stream)) e ∙ not_true _ is in
    let wrong : true ≡ false = sym ((law (take n stream)).1 found) ∙ no_message in cc
by_computing law stream (suc k) is n le found =
    let parts = both _ _ is in
    elim (cases_lt n (suc k)) [
      | inl below ↦ by_computing law stream k parts.0 n (omega arith) found
      | inr above ↦
          let e : n ≡ suc k = omega arith in
          let no_message : is_message (take n stream) ≡ false = ap (λ (m : ℕ). is_message (take m stream)) e ∙ not_true _ parts.1 in
          let wrong : true ≡ false = sym ((law (take n stream)).1 found) ∙ no_message in cc
    ]

pub messages_are : MessagesAreTested → MessageRows
unfolding is_message
messages_are law = record {
  first_of_two = record { front = refl; is_one = (law get_a).0 refl; shortest = λ k below. by_computing law (get_a ++ get_a) 27 refl k (omega arith) };
  cut = by_computing law (codes "GET /a HTTP/1.1\r\nHost: h\r\n\r") 27 refl;
  bare_feeds = record { front = refl; is_one = (law (codes "GET\n\n")).0 refl; shortest = λ k below. by_computing law (codes "GET\n\nGET") 4 refl k (omega arith) };
  blank_lines_first = record {
    front = refl;
    is_one = (law (codes "\r\n\n\r\nGET\r\n\r\n")).0 refl;
    shortest = λ k below. by_computing law (codes "\r\n\n\r\nGET\r\n\r\n") 11 refl k (omega arith);
  };
  blank_lines_alone = by_computing law (codes "\r\n\r\n\n") 5 refl;
}

pub answers_are : AreCases case_rows
unfolding range_spec members trim_ows
answers_are =
    (refl, (refl, (refl, (refl, (refl, (refl, (refl, (refl, (refl, (refl, (refl, (refl, (refl, (refl, (refl, (refl, (refl, (refl, (refl, (refl, (refl, (refl, (refl, (refl, (refl, (refl, (refl, (refl, (refl, tt)))))))))))))))))))))))))))))

pub conditions_are : AreCases condition_rows
unfolding range_spec members trim_ows
conditions_are =
    (refl, (refl, (refl, (refl, (refl, (refl, (refl, (refl, (refl, (refl, (refl, (refl, (refl, (refl, (refl, (refl, (refl, (refl, (refl, (refl, (refl, (refl, tt))))))))))))))))))))))

-- ---- streams, from their bytes

is_plain_field : (name raw : List ℕ) → is_token name ≡ true → list_all is_value_byte raw ≡ true
    → IsField (record { name = name; raw = raw; end = crlf })
is_plain_field name raw token value =
    let parts = both _ _ token in record {
      name = (ltb-true _ _ parts.0, AllPass-from_list_all is_token_byte name parts.1);
      raw = AllPass-from_list_all is_value_byte raw value;
    }

-- a request for `/a` with these fields
abbrev get_head : List Field → RequestHead
get_head fields = record {
  blank = [];
  method = codes "GET";
  target = codes "/a";
  minor = 1;
  line_end = crlf;
  fields = fields;
  last = crlf;
}

get_head_is : (fields : List Field) → All IsField fields → IsRequestHead (get_head fields)
unfolding is_token_byte
get_head_is fields are = record {
  method = (omega arith, AllPass-from_list_all is_token_byte (codes "GET") refl);
  target = (omega arith, AllPass-from_list_all is_uri_byte (codes "/a") refl);
  target_text = IsUtf8-from_ascii (codes "/a") (IsAscii-cons 47 (codes "a") (omega arith) (IsAscii-cons 97 [] (omega arith) IsAscii-nil));
  minor = omega arith;
  fields = are;
}

head_here : (message : List ℕ) (fields : List Field) → All IsField fields → length fields ≤ FIELD_LIMIT
    → take MESSAGE_LIMIT message ≡ print_request (get_head fields) ++ []
    → HasRequest message (Some (seen_request (get_head fields)))
head_here message fields are few parts =
    (get_head fields, record { rest = []; reads = (get_head_is fields are, parts); room = few }, refl)

abbrev host_field : Field
host_field = record { name = codes "Host"; raw = codes " h"; end = crlf }

host_is : IsField host_field
unfolding is_token_byte
host_is = is_plain_field (codes "Host") (codes " h") refl refl

abbrev close_field : Field
close_field = record { name = codes "Connection"; raw = codes " close"; end = crlf }

close_is : IsField close_field
unfolding is_token_byte
close_is = is_plain_field (codes "Connection") (codes " close") refl refl

get_a_answer : IsAnswer shelf get_a whole_file
unfolding print_request range_spec members trim_ows
get_a_answer =
    (Some (seen_request (get_head (host_field ∷ []))), head_here get_a (host_field ∷ []) (All-cons IsField host_field [] host_is (All-nil IsField)) (omega arith) refl, refl)

close_answer : IsAnswer shelf get_and_close whole_and_close
unfolding print_request range_spec members trim_ows
close_answer = (
  Some (seen_request (get_head (host_field ∷ close_field ∷ []))),
  head_here get_and_close (host_field ∷ close_field ∷ [])
      (All-cons IsField host_field (close_field ∷ []) host_is (All-cons IsField close_field [] close_is (All-nil IsField))) (omega arith) refl,
  refl,
)

first_get : MessagesAreTested → (rest : List ℕ) → none_up_to (get_a ++ rest) 27 ≡ true → IsFirstMessage (get_a ++ rest) get_a
unfolding is_message
first_get law rest none =
    record { front = refl; is_one = (law get_a).0 refl; shortest = λ k below. by_computing law (get_a ++ rest) 27 none k (omega arith) }

first_close : MessagesAreTested → IsFirstMessage (get_and_close ++ get_a) get_and_close
unfolding is_message
first_close law =
    record { front = refl; is_one = (law get_and_close).0 refl; shortest = λ k below. by_computing law (get_and_close ++ get_a) 46 refl k (omega arith) }

pub streams_are : MessagesAreTested → StreamRows
unfolding is_message
streams_are law = record {
  two =
      more 99 (get_a ++ get_a ++ codes "GET") get_a whole_file (whole_file ∷ []) (first_get law (get_a ++ codes "GET") refl) get_a_answer refl
      (more 98 (get_a ++ codes "GET") get_a whole_file [] (first_get law (codes "GET") refl) get_a_answer refl
      (unfinished 97 (codes "GET") (by_computing law (codes "GET") 3 refl)));
  two_end = refl;
  closing = closed 99 (get_and_close ++ get_a) get_and_close whole_and_close (first_close law) close_answer refl;
  closing_end = refl;
  none = unfinished 99 [] (by_computing law [] 0 refl);
  hundred_end = refl;
}

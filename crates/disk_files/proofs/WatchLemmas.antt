-- An error that is handed on, and what is published of bytes that were read.
use Rattle.std.proofs.Common.{◌≡◌, ◌<◌, ◌≤◌, ◌+◌, ◌∙◌, ℕ, Bor, List, Option, None, Result, Ok, Err, Some, IfErr, IfOk, IsErrAnd, ap, arith, inl, inr, length, subst, sym, take}
use Rattle.std.specs.Prelude.{IsSomeAnd, MatchOption, MatchResult}
use lib.ListN.{replicate}
use Rattle.std.specs.Option.{option_copied, option_map}
use Rattle.std.proofs.lemmas.List.{length-replicate, take_all}
use Rattle.http_range.specs.Book.{Catalogue, Publication, publish, published}
use Rattle.http_range.specs.Laws.{PublishReplaces}
use Rattle.cog_server.specs.Server.{IsRefusal, ServerState, refusal_of}
use Rattle.cog_server.specs.declared.error.PublishError.{PublishError}
use Rattle.disk_files.specs.Watching.{IsOfDisk, IsRefusedAs, IsRefusedBy, IsRefusedOf}
use Rattle.http_range.specs.declared.publication.TheConstants.{FILE_LIMIT}
use Rattle.disk_files.specs.declared.watched.WatchError.{WatchError}
use Rattle.disk_files.specs.declared.watched.WatchError.TheVariants.{CantRead, NotAFile, Refused}
use Rattle.disk_files.specs.Published.{IsFileOf}

-- what holds of an error holds where it is handed on
pub handed_on : {A E : Type 0} (r : Result A E) (P : E → Type 0) (error : E) → P error → IsErrAnd r (λ e. e ≡ error) → IfErr r P
handed_on (Ok x) P error holds is = absurd is
handed_on (Err e) P error holds is = subst P (sym is) holds

abbrev ok_or : {T D : Type 0} → T → Result T D → T
ok_or x (Ok y) = y
ok_or x (Err e) = x

-- what holds of a value holds of it where an error would have been told otherwise
pub kept_ok : {T E D : Type 0} (r : Result T E) (s : Result T D) (Told : E → D → Type 0) (x : T) (P : T → Type 0)
    → MatchResult r (λ y. s ≡ Ok y) (λ e. IsErrAnd s (Told e)) → s ≡ Ok x → IfOk r P → P x
kept_ok (Ok y) s Told x P is here holds = subst P (ap (ok_or x) (sym is ∙ here)) holds
kept_ok (Err e) s Told x P is here holds = absurd (subst (λ s. IsErrAnd s (Told e)) here is)

-- what is read up to one byte more than the most, of no more than the most, is all of it
pub all_of : (most : ℕ) (bytes whole : List ℕ) → bytes ≡ take (most + 1) whole → length whole ≤ most → bytes ≡ whole
all_of most bytes whole is small = is ∙ take_all (most + 1) whole (omega arith)

-- what is published last under a name is the file there
pub file_there : PublishReplaces → (name tag file : List ℕ) (s t : ServerState) → t.catalogue ≡ publish (record { name = name; tag = tag; file = file }) s.catalogue
    → IsFileOf name file t
file_there law name tag file s t is =
    let p : Publication = record { name = name; tag = tag; file = file } in
    ap (λ (c : Catalogue). option_map (λ (p : Publication). p.file) (published name c)) is ∙ ap (option_map (λ (p : Publication). p.file)) (law.stands p s.catalogue)

-- so it is under the same name, with the same bytes
pub file_as : (key name bytes whole : List ℕ) (s : ServerState) → key ≡ name → bytes ≡ whole → IsFileOf key bytes s → IsFileOf name whole s
file_as key name bytes whole s same is there = subst (λ n. IsFileOf n whole s) same (subst (λ b. IsFileOf key b s) is there)

-- where each file of a size is refused so, the refusal is one of the rules
pub refused_by_size : (s : ServerState) (name : List ℕ) (size : ℕ) (refusal : PublishError)
    → ((t : ServerState) (file : List ℕ) → length file ≡ size → refusal_of t.count t.catalogue name file ≡ Some refusal)
    → IsRefusedBy s name (Refused refusal)
refused_by_size s name size refusal by = (replicate size 0, inl (by s (replicate size 0) (length-replicate size 0)))

-- an error of the disk is no refusal
pub of_disk : {F : Type 0} (gives : F → Option (List ℕ)) (s : ServerState) (name : List ℕ) (why : WatchError) → IsOfDisk why → IsRefusedOf gives s name why
of_disk gives s name (CantRead e) is = tt
of_disk gives s name NotAFile is = tt
of_disk gives s name (Refused e) is = absurd is

-- a refusal of what a file gives, and one by its length, are such
of_file : {F : Type 0} (gives : F → Option (List ℕ)) (s : ServerState) (name : List ℕ) (file : F) (why : WatchError)
    → ((whole : List ℕ) → gives file ≡ Some whole → IsRefusedAs s name (take (FILE_LIMIT + 1) whole) why) → IsRefusedOf gives s name why
of_file gives s name file (CantRead e) is = tt
of_file gives s name file NotAFile is = tt
of_file gives s name file (Refused e) is = inr (file, is)

pub refused_of : {A F : Type 0} (gives : F → Option (List ℕ)) (s : ServerState) (name : List ℕ) (file : F) (r : Result A WatchError)
    → ((whole : List ℕ) → gives file ≡ Some whole → IfErr r (IsRefusedAs s name (take (FILE_LIMIT + 1) whole))) → IfErr r (IsRefusedOf gives s name)
refused_of gives s name file (Ok x) is = tt
refused_of gives s name file (Err why) is = of_file gives s name file why is

pub of_length : {F : Type 0} (gives : F → Option (List ℕ)) (s : ServerState) (name : List ℕ) (size : ℕ) (refusal : PublishError) → FILE_LIMIT < size
    → ((t : ServerState) (file : List ℕ) → length file ≡ size → refusal_of t.count t.catalogue name file ≡ Some refusal)
    → IsRefusedOf gives s name (Refused refusal)
of_length gives s name size refusal large by =
    let file : List ℕ = replicate size 0 in
    inl (file, subst (λ n. FILE_LIMIT < n) (sym (length-replicate size 0)) large, by s file (length-replicate size 0))

-- a refusal of the bytes that were read is one of what the file gives
pub refused_as : (s : ServerState) (key name bytes given : List ℕ) (e : PublishError) → key ≡ name → bytes ≡ given
    → IsRefusal (refusal_of s.count s.catalogue key bytes) e → IsRefusedAs s name given (Refused e)
refused_as s key name bytes given e same is refused =
    subst (λ n. IsRefusal (refusal_of s.count s.catalogue n given) e) same
    (subst (λ b. IsRefusal (refusal_of s.count s.catalogue key b) e) is refused)

-- what a match says of a value that is there
pub at_some : {A : Type 0} (o : Option A) (x : A) (P : Type 0) (Q : A → Type 0) → o ≡ Some x → MatchOption o P Q → Q x
at_some o x P Q is holds = subst (λ o. MatchOption o P Q) is holds

-- and of none
pub at_none : {A : Type 0} (o : Option A) (P : Type 0) (Q : A → Type 0) → o ≡ None → MatchOption o P Q → P
at_none o P Q is holds = subst (λ o. MatchOption o P Q) is holds

-- what is given is what is published, where it is found so
pub as_found : (name key whole : List ℕ) (s : ServerState) (found : Option (Bor (List ℕ))) → key ≡ name
    → option_copied found ≡ option_map (λ p. p.file) (published key s.catalogue) → IsSomeAnd found (λ old. whole ≡ old.now) → IsFileOf name whole s
as_found name key whole s None same there is = absurd is
as_found name key whole s (Some old) same there is = subst (λ n. IsFileOf n whole s) same (sym there ∙ ap (λ x. Some x) (sym is))

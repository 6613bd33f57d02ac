-- Stamps are equal where each of their numbers is.
use Rattle.std.proofs.Common.{◌≡◌, ℤ, Bool, ◌&&◌, ◌==◌, ap, rules}
use Rattle.std.specs.Ordering.{int_eq}
use Rattle.std.specs.Bool.{Decides}
use Rattle.std.proofs.lemmas.Bool.Decides.{Decides-and, Decides-eqb, Decides-int_eq}
use Rattle.disk_files.specs.declared.stamp.Stamp.{Stamp}

-- the test of two times
abbrev times_equal : ℤ × ℤ → ℤ × ℤ → Bool
times_equal t u = int_eq t.0 u.0 && int_eq t.1 u.1

times_decided : (t u : ℤ × ℤ) → Decides (times_equal t u) ((t.0 ≡ u.0) × (t.1 ≡ u.1))
times_decided t u = Decides-and _ _ (Decides-int_eq t.0 u.0) (Decides-int_eq t.1 u.1)

-- the test of two stamps
abbrev pub stamps_equal : Stamp → Stamp → Bool
stamps_equal a b =
    a.device == b.device && (a.inode == b.inode && (a.length == b.length
    && (times_equal a.modified b.modified && times_equal a.changed b.changed)))

-- it decides whether they are equal
pub stamps_decided : (a b : Stamp) → Decides (stamps_equal a b) (a ≡ b)
stamps_decided a b =
    let each = Decides-and _ _ (Decides-eqb a.device b.device) (Decides-and _ _ (Decides-eqb a.inode b.inode)
    (Decides-and _ _ (Decides-eqb a.length b.length)
    (Decides-and _ _ (times_decided a.modified b.modified) (times_decided a.changed b.changed)))) in (
      (λ same. equal a b (each.0 same)),
      (λ same. each.1 (
        ap (λ s. s.device) same,
        (
          ap (λ s. s.inode) same,
          (
            ap (λ s. s.length) same,
            ((ap (λ s. s.modified.0) same, ap (λ s. s.modified.1) same), (ap (λ s. s.changed.0) same, ap (λ s. s.changed.1) same)),
          ),
        ),
      )),
    )
  where
    equal : (a b : Stamp) → (a.device ≡ b.device) × ((a.inode ≡ b.inode) × ((a.length ≡ b.length)
        × (((a.modified.0 ≡ b.modified.0) × (a.modified.1 ≡ b.modified.1)) × ((a.changed.0 ≡ b.changed.0) × (a.changed.1 ≡ b.changed.1)))))
        → a ≡ b
    equal a b (device, (inode, (length, ((m, n), (s, t))))) = search rules

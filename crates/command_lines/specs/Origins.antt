-- The origins whose pages may read files in a browser (the Fetch standard, section 3.3.3).
use Rattle.std.specs.Prelude.{◌&&◌, ℕ, Bool, List, length, nat_le, nat_lt}
use Rattle.std.specs.List.{list_all}

-- a visible character of ASCII
abbrev pub is_visible : ℕ → Bool
is_visible b = nat_le 33 b && nat_le b 126

-- 1 to 255 such characters; one of these words is `*`, which stands for any origin
abbrev pub is_origin : List ℕ → Bool
is_origin word = nat_lt 0 (length word) && nat_le (length word) 255 && list_all is_visible word

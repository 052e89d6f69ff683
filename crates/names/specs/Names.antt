-- The fields' names: document 01, "8 bytes: name, a to z first, then a to z, 0 to 9 or _, filled with zero bytes; no name twice".
use Rattle.std.specs.Prelude.{Bool, not, ◌&&◌, ◌||◌, List, ℕ, ◌+◌, ◌*◌, ◌/◌, ◌≤◌, length, get_or, eqb, leb}
use Rattle.basis.specs.Tests.{all}

-- byte j of name i
abbrev pub name_byte : List ℕ → ℕ → ℕ → ℕ
name_byte s i j = get_or s (i * 8 + j) 0

abbrev pub NameIn : List ℕ → ℕ → Type 0
NameIn s i = i * 8 + 8 ≤ length s

-- a to z
abbrev pub is_letter : ℕ → Bool
is_letter b = leb 97 b && leb b 122

-- 0 to 9
abbrev pub is_digit : ℕ → Bool
is_digit b = leb 48 b && leb b 57

-- a to z, 0 to 9 or _
unfoldable pub is_inner : ℕ → Bool
is_inner b = is_letter b || is_digit b || eqb b 95

-- byte b may stand after byte a: filled with zero bytes, so after a zero byte stands another
unfoldable pub may_follow : ℕ → ℕ → Bool
may_follow a b = eqb b 0 || (not (eqb a 0) && is_inner b)

abbrev pub follows_at : List ℕ → ℕ → ℕ → Bool
follows_at s i j = may_follow (name_byte s i j) (name_byte s i (j + 1))

-- a to z first, then as above
unfoldable pub good_name : List ℕ → ℕ → Bool
good_name s i = is_letter (get_or s (i * 8) 0) && all 7 (follows_at s i)

unfoldable pub same_name : List ℕ → ℕ → ℕ → Bool
same_name s i k = all 8 (λ j. eqb (name_byte s i j) (name_byte s k j))

-- no name twice: name i is none of those before it
unfoldable pub new_name : List ℕ → ℕ → Bool
new_name s i = all i (λ k. not (same_name s k i))

-- 4: a bad or repeated name
unfoldable pub names_right : List ℕ → Bool
names_right s = all (length s / 8) (λ i. good_name s i && new_name s i)

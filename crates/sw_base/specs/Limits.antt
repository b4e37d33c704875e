-- The limits that a source keeps.
use Rattle.std.specs.Prelude.{ℕ}

-- the most bytes that a source may have
abbrev pub longest_source : ℕ
longest_source = 1048576

-- the greatest integer
abbrev pub greatest_integer : ℕ
greatest_integer = 9223372036854775807

-- Sizes from which a bound is infinite.
use Rattle.std.specs.Prelude.{suc, ◌*◌, ◌^◌, pos, negsuc, Bool, nat_le}
use Rattle.spec_mps.specs.NumberText.{NumberParts, Decimal, Quotient}

-- whether the number of these parts is 10 ^ 20 or more in size
unfoldable pub is_huge : NumberParts → Bool
is_huge (Decimal negative s (pos e)) = nat_le (10 ^ 20) (s * 10 ^ e)
is_huge (Decimal negative s (negsuc e)) = nat_le (10 ^ 20 * 10 ^ suc e) s
is_huge (Quotient negative top bottom) = nat_le (10 ^ 20 * bottom) top

-- whether the number of these parts has a minus sign
abbrev pub sign_of : NumberParts → Bool
sign_of (Decimal negative s e) = negative
sign_of (Quotient negative top bottom) = negative

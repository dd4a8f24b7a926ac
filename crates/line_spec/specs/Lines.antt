-- Which bytes and which lines are accepted (document 01, 'A frame and a stream', and order W2). `line_rule` is the one name for the rule of
-- a line. Assumes nothing: these are definitions.
use Rattle.std.specs.Prelude.{Bool, true, false, not, cond, List, [], ◌∷◌, ℕ, suc, eqb, leb, length, Ok, Err, Result, ⊤}
use Rattle.line_spec.specs.declared.TradeFault.{TradeFault}
use Rattle.line_spec.specs.declared.TradeFault.TheVariants.{Unlisted, Trade}

-- the longest line in bytes (document 01, field 03)
abbrev pub longest : ℕ
longest = 65

-- the listed bytes (document 01): the digits from 0x30 to 0x39
abbrev pub first_digit : ℕ
first_digit = 0x30

abbrev pub last_digit : ℕ
last_digit = 0x39

-- the four symbols, A transit, B amount, C on-us, D dash
abbrev pub transit : ℕ
transit = 0x41

abbrev pub on_us : ℕ
on_us = 0x43

abbrev pub dash : ℕ
dash = 0x44

-- and the blank
abbrev pub blank : ℕ
blank = 0x20

unfoldable pub is_digit : ℕ → Bool
is_digit b = cond (leb first_digit b) (leb b last_digit) false

abbrev pub is_symbol : ℕ → Bool
is_symbol b = cond (leb transit b) (leb b dash) false

-- a byte that a line may hold
unfoldable pub is_listed : ℕ → Bool
is_listed b = cond (is_digit b) true (cond (is_symbol b) true (eqb b blank))

-- every byte is a listed one
unfoldable pub all_listed : List ℕ → Bool
all_listed [] = true
all_listed (b ∷ s) = cond (is_listed b) (all_listed s) false

-- the trade's line (order W2) has at least one digit
unfoldable pub any_digit : List ℕ → Bool
any_digit [] = false
any_digit (b ∷ s) = cond (is_digit b) true (any_digit s)

-- how often the transit symbol occurs
unfoldable pub is_transit : ℕ → Bool
is_transit b = eqb b transit

unfoldable pub transits : List ℕ → ℕ
transits [] = 0
transits (b ∷ s) = cond (is_transit b) (suc (transits s)) (transits s)

-- the bytes before the first transit symbol, and those behind it
unfoldable pub before : List ℕ → List ℕ
before [] = []
before (b ∷ s) = cond (is_transit b) [] (b ∷ before s)

unfoldable pub behind : List ℕ → List ℕ
behind [] = []
behind (b ∷ s) = cond (is_transit b) s (behind s)

-- those between the first transit symbol and the second
abbrev pub between : List ℕ → List ℕ
between s = before (behind s)

-- exactly nine digits and no other byte
abbrev pub nine : ℕ
nine = 9

unfoldable pub all_digits : List ℕ → Bool
all_digits [] = true
all_digits (b ∷ s) = cond (is_digit b) (all_digits s) false

abbrev pub nine_digits : List ℕ → Bool
nine_digits s = cond (eqb (length s) nine) (all_digits s) false

-- transit symbols occur not at all, or exactly twice, with nine digits between
unfoldable pub transits_right : List ℕ → Bool
transits_right s = cond (eqb (transits s) 0) true (cond (eqb (transits s) 2) (nine_digits (between s)) false)

unfoldable pub is_trade : List ℕ → Bool
is_trade s = cond (any_digit s) (transits_right s) false

-- what a line is found to be: 9, over the whole line, then 13
unfoldable pub line_rule : List ℕ → Result ⊤ TradeFault
line_rule s =
    cond (not (all_listed s)) (Err Unlisted)
    (cond (not (is_trade s)) (Err Trade) (Ok tt))

-- the number of each answer (document 01, 'Numbers returned'; order W2)
abbrev pub trade_number : Result ⊤ TradeFault → ℕ
trade_number (Ok tt) = 0
trade_number (Err Unlisted) = 9
trade_number (Err Trade) = 13

-- Written data cards are read back, in both forms.
use Rattle.std.proofs.Common.{ℕ, List, [], ◌∷◌, refl, arith}
use Rattle.std.specs.Prelude.{codes}
use Rattle.spec_mps.specs.declared.style.Style.{Style}
use Rattle.spec_mps.specs.declared.style.Style.TheVariants.{Free, Fixed}
use Rattle.spec_mps.specs.Written.{field_at}
use Rattle.spec_mps.specs.NumberWritten.{IsWord}
use Rattle.spec_mps.proofs.WrittenCards.{IsItem, AreReadBack}
use Rattle.spec_mps.proofs.WrittenWords.{free_card_read}
use Rattle.spec_mps.proofs.WrittenColumns.{HasNoneBeside}
use Rattle.spec_mps.proofs.WrittenFixed.{IsCell, none_1, none_2, none_3, none_4, type_card_read}
use Rattle.spec_mps.proofs.WrittenFixed.{number_card_read, unbound_card_read, bound_card_read}

-- BND, the set of written bounds, is a word
bound_set : IsWord (codes "BND")
bound_set = record { some = refl; printable = refl }

-- a word that has room in a field of fixed form fits the columns of that field
in_cell : (column size : ℕ) (w : List ℕ) → HasNoneBeside column size → IsItem Fixed size w → IsCell column size w
in_cell column size w none h = record { word = h.word; fits = h.room; none = none }

-- BND, the set of written bounds, fits the columns of field 2
set_cell : IsCell 5 8 (codes "BND")
set_cell = record { word = bound_set; fits = omega arith; none = none_2 }

-- the data cards of a written text are read as their fields in both forms
pub cards_are_read_back : (style : Style) → AreReadBack style
cards_are_read_back Free =
    record {
      types = λ k a hk ha. record { read = free_card_read (field_at 1 k) (field_at 2 a ∷ []) (hk.word, (ha.word, tt)) };
      numbers =
          λ a b c ha hb hc. record {
            read = free_card_read (field_at 2 a) (field_at 3 b ∷ field_at 4 c ∷ []) (ha.word, (hb.word, (hc.word, tt)));
          };
      bounds =
          λ k b c hk hb hc. record {
            read =
                free_card_read (field_at 1 k) (field_at 2 (codes "BND") ∷ field_at 3 b ∷ field_at 4 c ∷ [])
                (hk.word, (bound_set, (hb.word, (hc.word, tt))));
          };
      without_number = λ k b hk hb. record {
        read =
            free_card_read (field_at 1 k) (field_at 2 (codes "BND") ∷ field_at 3 b ∷ [])
            (hk.word, (bound_set, (hb.word, tt)));
      };
    }
cards_are_read_back Fixed =
    record {
      types = λ k a hk ha. record { read = type_card_read k a (in_cell 2 2 k none_1 hk) (in_cell 5 8 a none_2 ha) };
      numbers =
          λ a b c ha hb hc. record {
            read =
                number_card_read a b c (in_cell 5 8 a none_2 ha) (in_cell 15 8 b none_3 hb) (in_cell 25 12 c none_4 hc);
          };
      bounds =
          λ k b c hk hb hc.
          record {
            read =
                bound_card_read k (codes "BND") b c (in_cell 2 2 k none_1 hk) set_cell
                (in_cell 15 8 b none_3 hb) (in_cell 25 12 c none_4 hc);
          };
      without_number = λ k b hk hb. record {
        read = unbound_card_read k (codes "BND") b (in_cell 2 2 k none_1 hk) set_cell (in_cell 15 8 b none_3 hb);
      };
    }

-- A running aggregate stays of its kind.
use Rattle.std.proofs.Common.{◌≡◌, ◌∙◌, [], ◌∷◌, sym, ap, refl, true}
use Rattle.pipe_columns.specs.declared.any_value.AnyValue.{AnyValue}
use Rattle.pipe_columns.specs.declared.data_type.DataType.{DataType}
use Rattle.pipe_columns.specs.declared.place.Place.{Place}
use Rattle.pipe_running.specs.declared.function.AggregateFunction.{AggregateFunction}
use Rattle.pipe_running.specs.declared.function.AggregateFunction.TheVariants as function
use Rattle.pipe_running.specs.SameKind.{SameKind}
use Rattle.pipe_running.specs.States.{after_value, alike, fresh, joined, kind_of_direction, seen}
use Rattle.pipe_running.proofs.AlikeFacts.{alike-after, alike-back, alike-fresh, alike-itself, alike-joined, alike-through, own_type, type-after, type-fresh, type-joined}
use Rattle.pipe_running.proofs.KindFacts.{directions-same}

-- two of one kind that are made with one type take the same and give the same types
same-if : (f g : AggregateFunction) → alike f g ≡ true → own_type g ≡ own_type f → SameKind f g
same-if (function.First a) (function.First b) e d = record { takes = λ v. refl; alike = e; kind = refl; suits = λ t s. d ∙ s; types = ap (λ (t : DataType). t ∷ []) d }
same-if (function.Last a) (function.Last b) e d = record { takes = λ v. refl; alike = e; kind = refl; suits = λ t s. d ∙ s; types = ap (λ (t : DataType). t ∷ []) d }
same-if (function.Count a) (function.Count b) e d = record { takes = λ v. refl; alike = e; kind = refl; suits = λ t s. s; types = refl }
same-if (function.Len a) (function.Len b) e d = record { takes = λ v. refl; alike = e; kind = refl; suits = λ t s. s; types = refl }
same-if (function.SumU32 a) (function.SumU32 b) e d = record { takes = λ v. refl; alike = e; kind = refl; suits = λ t s. s; types = refl }
same-if (function.SumU64 a) (function.SumU64 b) e d = record { takes = λ v. refl; alike = e; kind = refl; suits = λ t s. s; types = refl }
same-if (function.SumI32 a) (function.SumI32 b) e d = record { takes = λ v. refl; alike = e; kind = refl; suits = λ t s. s; types = refl }
same-if (function.SumI64 a) (function.SumI64 b) e d = record { takes = λ v. refl; alike = e; kind = refl; suits = λ t s. s; types = refl }
same-if (function.Mean a) (function.Mean b) e d = record { takes = λ v. refl; alike = e; kind = refl; suits = λ t s. s; types = refl }
same-if (function.Null a) (function.Null b) e d = record { takes = λ v. refl; alike = e; kind = refl; suits = λ t s. s; types = ap (λ (t : DataType). t ∷ []) d }
same-if (function.MinMaxU8 a) (function.MinMaxU8 b) e d = record { takes = λ v. refl; alike = e; kind = ap kind_of_direction (sym (directions-same a.direction b.direction e)); suits = λ t s. s; types = refl }
same-if (function.MinMaxU16 a) (function.MinMaxU16 b) e d = record { takes = λ v. refl; alike = e; kind = ap kind_of_direction (sym (directions-same a.direction b.direction e)); suits = λ t s. s; types = refl }
same-if (function.MinMaxU32 a) (function.MinMaxU32 b) e d = record { takes = λ v. refl; alike = e; kind = ap kind_of_direction (sym (directions-same a.direction b.direction e)); suits = λ t s. s; types = refl }
same-if (function.MinMaxU64 a) (function.MinMaxU64 b) e d = record { takes = λ v. refl; alike = e; kind = ap kind_of_direction (sym (directions-same a.direction b.direction e)); suits = λ t s. s; types = refl }
same-if (function.MinMaxI8 a) (function.MinMaxI8 b) e d = record { takes = λ v. refl; alike = e; kind = ap kind_of_direction (sym (directions-same a.direction b.direction e)); suits = λ t s. s; types = refl }
same-if (function.MinMaxI16 a) (function.MinMaxI16 b) e d = record { takes = λ v. refl; alike = e; kind = ap kind_of_direction (sym (directions-same a.direction b.direction e)); suits = λ t s. s; types = refl }
same-if (function.MinMaxI32 a) (function.MinMaxI32 b) e d = record { takes = λ v. refl; alike = e; kind = ap kind_of_direction (sym (directions-same a.direction b.direction e)); suits = λ t s. s; types = refl }
same-if (function.MinMaxI64 a) (function.MinMaxI64 b) e d = record { takes = λ v. refl; alike = e; kind = ap kind_of_direction (sym (directions-same a.direction b.direction e)); suits = λ t s. s; types = refl }
same-if f g e d = cc

-- before any value it is of its kind
pub same-fresh : (f : AggregateFunction) → SameKind f (fresh f)
same-fresh f = same-if f (fresh f) (alike-fresh f) (type-fresh f)

-- and so it is with one more value
pub same-after : (p : Place) (v : AnyValue) (f : AggregateFunction) → SameKind f (after_value p v f)
same-after p v f = same-if f (after_value p v f) (alike-after p v f) (type-after p v f)

-- and with another
pub same-joined : (f g : AggregateFunction) → SameKind f (joined f g)
same-joined f g = same-if f (joined f g) (alike-back (joined f g) f (alike-joined f g f (alike-itself f))) (type-joined f g)

-- what is of the kind of one of a kind is of that kind
pub same-then : (f g h : AggregateFunction) → SameKind f g → SameKind g h → SameKind f h
same-then f g h a b = record {
  takes = λ v. b.takes v ∙ a.takes v;
  alike = alike-through f g h a.alike b.alike;
  kind = b.kind ∙ a.kind;
  suits = λ t s. b.suits t (a.suits t s);
  types = b.types ∙ a.types;
}

-- before any value nothing is counted
pub seen-fresh : (f : AggregateFunction) → seen (fresh f) ≡ 0
seen-fresh (function.Count a) = refl
seen-fresh f = refl

-- The value of an expression that has a type fits that type.
use Rattle.std.proofs.Common.{◌≡◌, ◌<◌, ◌^◌, ◌%◌, ◌&&◌, ℕ, zero, suc, ℤ, pos, negsuc, Bool, true, false, not, List, [], ◌∷◌, Option, Some, None, unwrap_or, if◌then◌else◌, refl, ap, arith}
use Rattle.std.specs.Prelude.{option_map, option_and_then}
use Rattle.std.specs.declared.cmp.Ordering.{Ordering}
use Rattle.std.specs.Str.{bytes_eq}
use Rattle.std.specs.Int.{int_wrap, int_rem_euclid, w8, w16, w32, w64}
use Rattle.std.specs.Int.RustNames.{FitsSigned}
use Rattle.std.specs.Ordering.{int_eq, is_eq, is_ne, is_lt, is_le, is_gt, is_ge}
use Rattle.std.proofs.lemmas.Bool.{and_parts, lt-ltb}
use Rattle.std.proofs.lemmas.Int.{SFits-int_wrap}
use Rattle.std.proofs.lemmas.List.Elements.{All-head, All-tail}
use Rattle.pipe_columns.specs.declared.data_type.DataType.{DataType}
use Rattle.pipe_columns.specs.declared.data_type.DataType.TheVariants as dt
use Rattle.pipe_columns.specs.declared.any_value.AnyValue.{AnyValue}
use Rattle.pipe_columns.specs.declared.any_value.AnyValue.TheVariants as av
use Rattle.pipe_columns.specs.AnyValue.{fits, fits_number, is_signed, is_unsigned}
use Rattle.pipe_columns.specs.DataType.{is_boolean, wrapped, is_castable, is_input, is_integer, same_type}
use Rattle.pipe_columns.specs.Frame.{AllFit, ColumnData, FrameData, fields_of, value_at, ColumnsFit}
use Rattle.pipe_columns.specs.declared.operator.Operator.{Operator}
use Rattle.pipe_columns.specs.declared.operator.Operator.TheVariants as op
use Rattle.pipe_model.specs.Expr.{Expr}
use Rattle.pipe_model.specs.Expr as expr
use Rattle.pipe_model.specs.Operators.{and_values, apply, arithmetic, cast_value, chosen, comparison, exact_result, number_if_any, or_values}
use Rattle.pipe_model.specs.Typing.{both, field_named, known_type, operator_type, shared_type, truth_type, type_of, where_boolean}
use Rattle.pipe_model.specs.Value.{column_named, value, values_if_any}

-- ---- numbers

wrapped-signed8 : (z : ℤ) → FitsSigned w8 z → is_signed 7 z ≡ true
wrapped-signed8 (pos n) f = grind arith
wrapped-signed8 (negsuc n) f = grind arith

wrapped-signed16 : (z : ℤ) → FitsSigned w16 z → is_signed 15 z ≡ true
wrapped-signed16 (pos n) f = grind arith
wrapped-signed16 (negsuc n) f = grind arith

wrapped-signed32 : (z : ℤ) → FitsSigned w32 z → is_signed 31 z ≡ true
wrapped-signed32 (pos n) f = grind arith
wrapped-signed32 (negsuc n) f = grind arith

wrapped-signed64 : (z : ℤ) → FitsSigned w64 z → is_signed 63 z ≡ true
wrapped-signed64 (pos n) f = grind arith
wrapped-signed64 (negsuc n) f = grind arith

-- what is left below 2^n is below it
left-unsigned : (n : ℕ) (z : ℤ) → 0 < 2 ^ n → is_unsigned n (int_rem_euclid z (pos (2 ^ n))) ≡ true
left-unsigned n (pos a) h = lt-ltb (a % 2 ^ n) (2 ^ n) (omega arith)
left-unsigned n (negsuc a) h = lt-ltb _ (2 ^ n) (omega arith)

-- a number wrapped into an integer type fits it
wrapped-fits : (t : DataType) (z : ℤ) → is_integer t ≡ true → fits_number (wrapped t z) t ≡ true
wrapped-fits dt.Boolean z i = cc
wrapped-fits dt.Int8 z i = wrapped-signed8 (int_wrap w8 z) (SFits-int_wrap w8 z)
wrapped-fits dt.Int16 z i = wrapped-signed16 (int_wrap w16 z) (SFits-int_wrap w16 z)
wrapped-fits dt.Int32 z i = wrapped-signed32 (int_wrap w32 z) (SFits-int_wrap w32 z)
wrapped-fits dt.Int64 z i = wrapped-signed64 (int_wrap w64 z) (SFits-int_wrap w64 z)
wrapped-fits dt.UInt8 z i = left-unsigned 8 z (omega arith)
wrapped-fits dt.UInt16 z i = left-unsigned 16 z (omega arith)
wrapped-fits dt.UInt32 z i = left-unsigned 32 z (omega arith)
wrapped-fits dt.UInt64 z i = left-unsigned 64 z (omega arith)
wrapped-fits dt.Int128 z i = cc
wrapped-fits dt.Date z i = cc
wrapped-fits dt.String z i = cc

-- ---- operators

number-fits : (t : DataType) (r : Option ℤ) → is_integer t ≡ true → fits (number_if_any t r) t ≡ true
number-fits t None i = refl
number-fits t (Some n) i = wrapped-fits t n i

arithmetic-fits : (o : Operator) (t : DataType) (a b : AnyValue) → is_integer t ≡ true → fits (arithmetic o t a b) t ≡ true
arithmetic-fits o t (av.Int a) (av.Int b) i = number-fits t (exact_result o a b) i
arithmetic-fits o t (av.Int a) av.Null i = refl
arithmetic-fits o t (av.Int a) (av.Boolean b) i = refl
arithmetic-fits o t (av.Int a) (av.Text b) i = refl
arithmetic-fits o t av.Null b i = refl
arithmetic-fits o t (av.Boolean a) b i = refl
arithmetic-fits o t (av.Text a) b i = refl

pub comparison-fits : (test : Ordering → Bool) (a b : AnyValue) → fits (comparison test a b) dt.Boolean ≡ true
comparison-fits test av.Null b = refl
comparison-fits test (av.Boolean a) b = by_right b where
  by_right : (b : AnyValue) → fits (comparison test (av.Boolean a) b) dt.Boolean ≡ true
  by_right av.Null = refl
  by_right (av.Boolean b) = refl
  by_right (av.Int b) = refl
  by_right (av.Text b) = refl
comparison-fits test (av.Int a) b = by_right b where
  by_right : (b : AnyValue) → fits (comparison test (av.Int a) b) dt.Boolean ≡ true
  by_right av.Null = refl
  by_right (av.Boolean b) = refl
  by_right (av.Int b) = refl
  by_right (av.Text b) = refl
comparison-fits test (av.Text a) b = by_right b where
  by_right : (b : AnyValue) → fits (comparison test (av.Text a) b) dt.Boolean ≡ true
  by_right av.Null = refl
  by_right (av.Boolean b) = refl
  by_right (av.Int b) = refl
  by_right (av.Text b) = refl

pub and-fits : (a b : AnyValue) → fits (and_values a b) dt.Boolean ≡ true
and-fits a b = grind arith

pub or-fits : (a b : AnyValue) → fits (or_values a b) dt.Boolean ≡ true
or-fits a b = grind arith

-- a type that meets a test
abbrev Meets : (DataType → Bool) → DataType → Type 0
Meets test t = test t ≡ true

shared-is : (test : DataType → Bool) (a b t : DataType) → shared_type test a b ≡ Some t → (a ≡ t) × Meets test t
shared-is test a b t e = by_test (same_type a b && test a) refl e where
  by_test : (w : Bool) → (same_type a b && test a) ≡ w → (if w then Some a else None) ≡ Some t → (a ≡ t) × Meets test t
  by_test true h e =
      let same : a ≡ t = cc e in
      (same, rw (← same) (and_parts (same_type a b) (test a) h).1)
  by_test false h e = cc e

truth-is : (test : DataType → Bool) (a b t : DataType) → truth_type test a b ≡ Some t → dt.Boolean ≡ t
truth-is test a b t e = by_type (shared_type test a b) e where
  by_type : (r : Option DataType) → option_map (λ u. dt.Boolean) r ≡ Some t → dt.Boolean ≡ t
  by_type None e = cc e
  by_type (Some u) e = cc e

-- what an operator makes fits the type of its result
apply-fits : (o : Operator) (t u r : DataType) (a b : AnyValue) → operator_type o t u ≡ Some r → fits (apply o t a b) r ≡ true
apply-fits op.Plus t u r a b e = let s = shared-is is_integer t u r e in rw (s.0) (arithmetic-fits op.Plus r a b s.1)
apply-fits op.Minus t u r a b e = let s = shared-is is_integer t u r e in rw (s.0) (arithmetic-fits op.Minus r a b s.1)
apply-fits op.Multiply t u r a b e = let s = shared-is is_integer t u r e in rw (s.0) (arithmetic-fits op.Multiply r a b s.1)
apply-fits op.FloorDivide t u r a b e = let s = shared-is is_integer t u r e in rw (s.0) (arithmetic-fits op.FloorDivide r a b s.1)
apply-fits op.Modulus t u r a b e = let s = shared-is is_integer t u r e in rw (s.0) (arithmetic-fits op.Modulus r a b s.1)
apply-fits op.Eq t u r a b e = rw (← truth-is is_input t u r e) (comparison-fits is_eq a b)
apply-fits op.NotEq t u r a b e = rw (← truth-is is_input t u r e) (comparison-fits is_ne a b)
apply-fits op.Lt t u r a b e = rw (← truth-is is_input t u r e) (comparison-fits is_lt a b)
apply-fits op.LtEq t u r a b e = rw (← truth-is is_input t u r e) (comparison-fits is_le a b)
apply-fits op.Gt t u r a b e = rw (← truth-is is_input t u r e) (comparison-fits is_gt a b)
apply-fits op.GtEq t u r a b e = rw (← truth-is is_input t u r e) (comparison-fits is_ge a b)
apply-fits op.And t u r a b e = rw (← truth-is is_boolean t u r e) (and-fits a b)
apply-fits op.Or t u r a b e = rw (← truth-is is_boolean t u r e) (or-fits a b)

-- ---- casts and choices

truth-fits : (t : DataType) (b : Bool) → is_castable t ≡ true → fits (cast_value t (av.Boolean b)) t ≡ true
truth-fits t b c = grind arith

numbers-fit : (t : DataType) (n : ℤ) → fits (cast_value t (av.Int n)) t ≡ true
numbers-fit t n = by_kind (is_boolean t) (fits_number n t) refl refl where
  by_kind : (w v : Bool) → is_boolean t ≡ w → fits_number n t ≡ v → fits (if w then av.Boolean (not (int_eq n (pos 0))) else if v then av.Int n else av.Null) t ≡ true
  by_kind true v k f = k
  by_kind false true k f = f
  by_kind false false k f = refl

cast-fits : (t : DataType) (v : AnyValue) → is_castable t ≡ true → fits (cast_value t v) t ≡ true
cast-fits t av.Null c = refl
cast-fits t (av.Boolean b) c = truth-fits t b c
cast-fits t (av.Int n) c = numbers-fit t n
cast-fits t (av.Text s) c = refl

chosen-fits : (t : DataType) (p a b : AnyValue) → fits a t ≡ true → fits b t ≡ true → fits (chosen p a b) t ≡ true
chosen-fits t (av.Boolean true) a b h k = h
chosen-fits t (av.Boolean false) a b h k = k
chosen-fits t av.Null a b h k = k
chosen-fits t (av.Int n) a b h k = k
chosen-fits t (av.Text s) a b h k = k

-- ---- columns

-- a value of a column, or null past its end
column_value-fits : (t : DataType) (values : List AnyValue) (n : ℕ) → AllFit t values → fits (value_at values n) t ≡ true
column_value-fits t [] n h = refl
column_value-fits t (v ∷ vs) zero h = (and_parts _ _ h).0
column_value-fits t (v ∷ vs) (suc n) h = column_value-fits t vs n (and_parts _ _ h).1

-- a value of the first column of a name is of the type of the first field of that name
named-fits : (columns : List ColumnData) (name : List ℕ) (n : ℕ) (t : DataType) → ColumnsFit columns → option_map (λ f. f.dtype) (field_named name (fields_of columns)) ≡ Some t
    → fits (value_at (values_if_any (column_named name columns)) n) t ≡ true
named-fits [] name n t h e = refl
named-fits (c ∷ cs) name n t h e = by_test (bytes_eq c.name name) refl (named-fits cs name n t (All-tail P c cs h)) e where
  P : ColumnData → Type 0
  P c = AllFit c.dtype c.values

  by_test : (b : Bool) → bytes_eq c.name name ≡ b → (option_map (λ f. f.dtype) (field_named name (fields_of cs)) ≡ Some t → fits (value_at (values_if_any (column_named name cs)) n) t ≡ true)
      → option_map (λ f. f.dtype) (field_named name (fields_of (c ∷ cs))) ≡ Some t → fits (value_at (values_if_any (column_named name (c ∷ cs))) n) t ≡ true
  by_test true s rest e =
      let same : c.dtype ≡ t = cc (rw s at e) in
      rw s (rw (← same) (column_value-fits c.dtype c.values n (All-head P c cs h)))
  by_test false s rest e = rw s (rest (rw s at e))

-- ---- expressions

-- the types of the operands, where there is one of what they make
pub both-some : (f : DataType → DataType → Option DataType) (a b : Option DataType) (t : DataType) → both f a b ≡ Some t → (u : DataType) × (v : DataType) × (a ≡ Some u) × (b ≡ Some v) × (f u v ≡ Some t)
both-some f None b t e = cc e
both-some f (Some u) None t e = cc e
both-some f (Some u) (Some v) t e = (u, v, refl, refl, e)

boolean-some : (p t : Option DataType) (u : DataType) → where_boolean p t ≡ Some u → (p ≡ Some dt.Boolean) × (t ≡ Some u)
boolean-some None t u e = cc e
boolean-some (Some dt.Boolean) t u e = (refl, e)
boolean-some (Some dt.Int8) t u e = cc e
boolean-some (Some dt.Int16) t u e = cc e
boolean-some (Some dt.Int32) t u e = cc e
boolean-some (Some dt.Int64) t u e = cc e
boolean-some (Some dt.UInt8) t u e = cc e
boolean-some (Some dt.UInt16) t u e = cc e
boolean-some (Some dt.UInt32) t u e = cc e
boolean-some (Some dt.UInt64) t u e = cc e
boolean-some (Some dt.Int128) t u e = cc e
boolean-some (Some dt.Date) t u e = cc e
boolean-some (Some dt.String) t u e = cc e

cast-some : (a : Option DataType) (t u : DataType) → option_and_then (λ w. if is_castable w && is_castable t then Some t else None) a ≡ Some u → (t ≡ u) × (is_castable t ≡ true)
cast-some None t u e = cc e
cast-some (Some w) t u e = by_test (is_castable w) (is_castable t) refl e where
  by_test : (x y : Bool) → is_castable t ≡ y → (if x && y then Some t else None) ≡ Some u → (t ≡ u) × (is_castable t ≡ true)
  by_test true true c e = (cc e, c)
  by_test true false c e = cc e
  by_test false y c e = cc e

literal-fits : (t u : DataType) (v : AnyValue) → (if is_input t && fits v t then Some t else None) ≡ Some u → fits v u ≡ true
literal-fits t u v e = by_test (is_input t) (fits v t) refl e where
  by_test : (x y : Bool) → fits v t ≡ y → (if x && y then Some t else None) ≡ Some u → fits v u ≡ true
  by_test true true f e = let same : t ≡ u = cc e in rw (← same) f
  by_test true false f e = cc e
  by_test false y f e = cc e

pub same-is : (a b : DataType) → same_type a b ≡ true → a ≡ b
same-is a b e = grind arith

pub shared-both : (test : DataType → Bool) (a b t : DataType) → shared_type test a b ≡ Some t → (a ≡ t) × (b ≡ t)
shared-both test a b t e = by_test (same_type a b) (test a) refl e where
  by_test : (x y : Bool) → same_type a b ≡ x → (if x && y then Some a else None) ≡ Some t → (a ≡ t) × (b ≡ t)
  by_test true true s e = (cc e, let same = same-is a b s in cc (e, same))
  by_test true false s e = cc e
  by_test false y s e = cc e

-- the value of an expression in a row fits its type
pub value-fits : (e : Expr) (frame : FrameData) (row : ℕ) (t : DataType) → ColumnsFit frame.columns → type_of e (fields_of frame.columns) ≡ Some t → fits (value e frame row) t ≡ true
value-fits (expr.column name) frame row t h e = named-fits frame.columns name row t h e
value-fits (expr.literal u v) frame row t h e = literal-fits u t v e
value-fits (expr.cast x u) frame row t h e =
    let c = cast-some (type_of x (fields_of frame.columns)) u t e in
    rw (← c.0) (cast-fits u (value x frame row) c.1)
value-fits (expr.binary l o r) frame row t h e =
    let parts = both-some (operator_type o) (type_of l (fields_of frame.columns)) (type_of r (fields_of frame.columns)) t e in
    let known : known_type l (fields_of frame.columns) ≡ parts.0 = ap (λ (w : Option DataType). unwrap_or w dt.UInt32) parts.2 in
    rw known (apply-fits o parts.0 parts.1 t (value l frame row) (value r frame row) parts.4)
value-fits (expr.ternary p a b) frame row t h e =
    let fields = fields_of frame.columns in
    let given = boolean-some (type_of p fields) (both (shared_type (λ t. true)) (type_of a fields) (type_of b fields)) t e in
    let parts = both-some (shared_type (λ t. true)) (type_of a fields) (type_of b fields) t given.1 in
    let same = shared-both (λ t. true) parts.0 parts.1 t parts.4 in
    let first : type_of a fields ≡ Some t = rw (← same.0) parts.2 in
    let second : type_of b fields ≡ Some t = rw (← same.1) parts.3 in
    chosen-fits t (value p frame row) (value a frame row) (value b frame row) (value-fits a frame row t h first) (value-fits b frame row t h second)
value-fits (expr.alias x name) frame row t h e = value-fits x frame row t h e
value-fits (expr.aggregate a x) frame row t h e = refl
value-fits expr.len frame row t h e = refl
value-fits (expr.filter x by) frame row t h e = refl
value-fits (expr.sort x) frame row t h e = refl

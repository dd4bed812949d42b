use Rattle.std.proofs.Common.{refl}
use Rattle.font_outlines.specs.StandardStrings.{standard_rows}
use Rattle.font_outlines.proofs.standard_strings.standard_row.Goals as goal

pub returns-in-0 : goal.returns-in-0
unfolding standard_rows
returns-in-0 c = rw c.in-0.is refl

pub returns-in-1 : goal.returns-in-1
unfolding standard_rows
returns-in-1 c = rw c.in-1.is refl

pub returns-in-2 : goal.returns-in-2
unfolding standard_rows
returns-in-2 c = rw c.in-2.is refl

pub returns-in-3 : goal.returns-in-3
unfolding standard_rows
returns-in-3 c = rw c.in-3.is refl

pub returns-in-4 : goal.returns-in-4
unfolding standard_rows
returns-in-4 c = rw c.in-4.is refl

pub returns-in-5 : goal.returns-in-5
unfolding standard_rows
returns-in-5 c = rw c.in-5.is refl

pub returns-in-6 : goal.returns-in-6
unfolding standard_rows
returns-in-6 c = rw c.in-6.is refl

pub returns-in-7 : goal.returns-in-7
unfolding standard_rows
returns-in-7 c = rw c.in-7.is refl

pub returns-in-8 : goal.returns-in-8
unfolding standard_rows
returns-in-8 c = rw c.in-8.is refl

pub returns-in-9 : goal.returns-in-9
unfolding standard_rows
returns-in-9 c = rw c.in-9.is refl

pub returns-in-10 : goal.returns-in-10
unfolding standard_rows
returns-in-10 c = rw c.in-10.is refl

pub returns-in-11 : goal.returns-in-11
unfolding standard_rows
returns-in-11 c = rw c.in-11.is refl

pub returns-in-12 : goal.returns-in-12
unfolding standard_rows
returns-in-12 c = rw c.in-12.is refl

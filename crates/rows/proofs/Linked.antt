-- The crate's functions in the world of a build, which is what an environment is made of (the kit's prog.Linked): its table of functions, and
-- that a world with this table has the code of the functions that other crates call, whatever else is in it.
use prog.Linked.{Tree, World, Holds, in_world}
use prog.LinkedThreads.{HasT}
use mathlib.Core.Bool.{true}
use Rattle.rows.proofs.TheLink as link
use Rattle.rows.proofs.copy_in.Symbol as copy_in
use Rattle.rows.proofs.copy_short.Symbol as copy_short
use Rattle.rows.proofs.get4.Symbol as get4
use Rattle.rows.proofs.insert_at.Symbol as insert_at
use Rattle.rows.proofs.long_word.Symbol as long_word
use Rattle.rows.proofs.put4.Symbol as put4
use Rattle.rows.proofs.remove_at.Symbol as remove_at
use Rattle.rows.proofs.replace_at.Symbol as replace_at
use Rattle.rows.proofs.word.Symbol as word

pub the_table : Tree
the_table = link.table

pub copy_in_linked : (W : World) → Holds W "rows" the_table → HasT (in_world W) true copy_in.code
unfolding the_table
copy_in_linked W h = link.linked-rows::copy_in W h tt

pub copy_short_linked : (W : World) → Holds W "rows" the_table → HasT (in_world W) true copy_short.code
unfolding the_table
copy_short_linked W h = link.linked-rows::copy_short W h tt

pub get4_linked : (W : World) → Holds W "rows" the_table → HasT (in_world W) true get4.code
unfolding the_table
get4_linked W h = link.linked-rows::get4 W h tt

pub insert_at_linked : (W : World) → Holds W "rows" the_table → HasT (in_world W) true insert_at.code
unfolding the_table
insert_at_linked W h = link.linked-rows::insert_at W h tt

pub long_word_linked : (W : World) → Holds W "rows" the_table → HasT (in_world W) true long_word.code
unfolding the_table
long_word_linked W h = link.linked-rows::long_word W h tt

pub put4_linked : (W : World) → Holds W "rows" the_table → HasT (in_world W) true put4.code
unfolding the_table
put4_linked W h = link.linked-rows::put4 W h tt

pub remove_at_linked : (W : World) → Holds W "rows" the_table → HasT (in_world W) true remove_at.code
unfolding the_table
remove_at_linked W h = link.linked-rows::remove_at W h tt

pub replace_at_linked : (W : World) → Holds W "rows" the_table → HasT (in_world W) true replace_at.code
unfolding the_table
replace_at_linked W h = link.linked-rows::replace_at W h tt

pub word_linked : (W : World) → Holds W "rows" the_table → HasT (in_world W) true word.code
unfolding the_table
word_linked W h = link.linked-rows::word W h tt

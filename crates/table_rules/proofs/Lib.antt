-- T8: records that the rules allow have a text
pub mod Numerals
pub mod FreshNames
pub mod Spelling
pub mod FlatPrint
pub mod Witness
pub mod ShownNames
pub mod GoodTokens
pub mod TextSize
pub mod Depth
pub mod FaultLaws
pub mod RuleFacts
pub mod Made
pub mod MadeOrder
pub mod TextBytes
pub mod RulesText
-- T8: what a text compiles to obeys the rules
pub mod TreeOrder
pub mod TextRules
pub mod Theorems
-- T6: the steps of number 10 and lawful values
pub mod Facts
pub mod Steps
pub mod Needed
pub mod Read
pub mod Words
pub mod Make
pub mod Values
pub mod Ten

-- The checks in their order, from the declarations on and from the text on.
mod Order
mod Text

-- open bodies as cells
mod Frames
-- the order, record by record
mod Order

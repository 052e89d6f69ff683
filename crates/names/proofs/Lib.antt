-- Names cut out of the bytes.
mod Cut

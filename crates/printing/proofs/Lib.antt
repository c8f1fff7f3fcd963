mod Front
mod Tables
mod Readings
